use Rattle.std.proofs.Common.{take}
use Rattle.show_commands.proofs.NumberLemmas.{IsLeastAbove}
use Rattle.show_commands.proofs.printing.least_above.Given as goal

abbrev pub invariant-loop-n : goal.invariant-loop-n
invariant-loop-n l = IsLeastAbove l.current (take l.n-index l.numbers) l.least
