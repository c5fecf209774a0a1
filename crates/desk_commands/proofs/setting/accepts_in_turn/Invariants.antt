use Rattle.std.proofs.Common.{◌≡◌, drop}
use Rattle.desk_commands.specs.Setting.{first_refusal}
use Rattle.desk_commands.proofs.setting.accepts_in_turn.Given as goal

abbrev pub invariant-loop-setting : goal.invariant-loop-setting
invariant-loop-setting l = first_refusal l.vars (drop l.setting-index l.settings) ≡ first_refusal l.vars-2 l.settings
