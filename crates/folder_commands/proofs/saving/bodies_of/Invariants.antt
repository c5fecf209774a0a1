use Rattle.std.proofs.Common.{◌≡◌, take}
use Rattle.std.specs.List.{flat_map}
use Rattle.folder_commands.specs.Saving.{body_line}
use Rattle.folder_commands.proofs.saving.bodies_of.Given as goal

abbrev pub invariant-loop-n : goal.invariant-loop-n
invariant-loop-n l = l.out ≡ flat_map (body_line l.desk) (take l.n-index l.numbers)
