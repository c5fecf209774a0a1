use Rattle.std.proofs.Common.{◌≡◌, take}
use Rattle.std.specs.List.{flat_map}
use Rattle.desk_commands.specs.Setting.{setting_line}
use Rattle.desk_commands.proofs.setting.listing.Given as goal

abbrev pub invariant-loop-k : goal.invariant-loop-k
invariant-loop-k l = l.out ≡ flat_map setting_line (take l.k l.vars)
