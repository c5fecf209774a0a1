use Rattle.std.proofs.Common.{◌≡◌, take}
use Rattle.std.specs.List.{flat_map}
use Rattle.show_commands.specs.Printing.{topped}
use Rattle.show_commands.proofs.printing.topped_all.Given as goal

abbrev pub invariant-loop-n : goal.invariant-loop-n
invariant-loop-n l = l.out ≡ flat_map (topped l.desk l.count) (take l.n-index l.numbers)
