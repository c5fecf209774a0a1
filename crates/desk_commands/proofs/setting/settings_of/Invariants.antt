use Rattle.std.proofs.Common.{◌≡◌, take, map}
use Rattle.desk_commands.specs.Setting.{setting_of}
use Rattle.desk_commands.proofs.setting.settings_of.Given as goal

abbrev pub invariant-loop-word : goal.invariant-loop-word
invariant-loop-word l = l.settings ≡ map setting_of (take l.word-index l.words)
