use Rattle.std.proofs.Common.{◌≡◌}
use Rattle.std.specs.List.{fold}
use Rattle.mailx_vars.specs.Changes.{changed}
use Rattle.command_desk.proofs.effects.change_all.Given as goal

abbrev pub invariant-loop-setting : goal.invariant-loop-setting
invariant-loop-setting l = fold changed l.vars l.setting-iterator.rest.items ≡ fold changed l.fn.vars l.fn.settings
