use Rattle.std.proofs.Common.{◌≡◌, take}
use Rattle.std.specs.List.{flat_map}
use Rattle.child_commands.specs.Piping.{text_line}
use Rattle.child_commands.proofs.piping.texts_of.Given as goal

abbrev pub invariant-loop-n : goal.invariant-loop-n
invariant-loop-n l = l.out ≡ flat_map (text_line l.desk) (take l.n-index l.numbers)
