use Rattle.std.proofs.Common.{◌≡◌, take}
use Rattle.std.specs.List.{flat_map}
use Rattle.desk_commands.specs.Calling.{listed}
use Rattle.desk_commands.proofs.calling.all_listed.Given as goal

abbrev pub invariant-loop-k : goal.invariant-loop-k
invariant-loop-k l = l.out ≡ flat_map listed (take l.k l.macros.done)
