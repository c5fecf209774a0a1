use Rattle.std.proofs.Common.{◌≡◌, take, map}
use Rattle.desk_commands.specs.Setting.{unsetting}
use Rattle.desk_commands.proofs.setting.unset_all.Given as goal

abbrev pub invariant-loop-name : goal.invariant-loop-name
invariant-loop-name l = l.settings ≡ map unsetting (take l.name-index l.names)
