use Rattle.std.proofs.Common.{◌≡◌, take}
use Rattle.quit_rules.specs.Gathering.{gathered_changes}
use Rattle.quit_rules.proofs.gathered.gathered_changes.Given as goal

abbrev pub invariant-loop-one : goal.invariant-loop-one
invariant-loop-one l = l.changes.items ≡ gathered_changes (take l.one-index l.gathered)
