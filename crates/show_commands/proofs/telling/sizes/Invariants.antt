use Rattle.std.proofs.Common.{◌≡◌, take}
use Rattle.std.specs.List.{flat_map}
use Rattle.show_commands.proofs.telling.sizes.Given as goal
use Rattle.show_commands.specs.Telling.{size_line}

abbrev pub invariant-loop-n : goal.invariant-loop-n
invariant-loop-n l = l.out ≡ flat_map (size_line l.desk) (take l.n-index l.numbers)
