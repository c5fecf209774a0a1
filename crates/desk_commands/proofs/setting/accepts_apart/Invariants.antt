use Rattle.std.proofs.Common.{◌≡◌, drop}
use Rattle.desk_commands.specs.Setting.{first_apart}
use Rattle.desk_commands.proofs.setting.accepts_apart.Given as goal

abbrev pub invariant-loop-setting : goal.invariant-loop-setting
invariant-loop-setting l = first_apart l.vars (drop l.setting-index l.settings) ≡ first_apart l.vars l.settings
