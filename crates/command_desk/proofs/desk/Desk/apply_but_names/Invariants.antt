use Rattle.std.proofs.Common.{◌≡◌, take}
use Rattle.command_desk.specs.Effects.{rows_after, with_rows}
use Rattle.command_desk.proofs.desk.Desk.apply_but_names.Given as goal

abbrev pub invariant-loop-marking : goal.invariant-loop-marking
invariant-loop-marking l = l.self ≡ with_rows l.fn.self (rows_after l.fn.self.shown.rows (take l.marking-index l.marks))
