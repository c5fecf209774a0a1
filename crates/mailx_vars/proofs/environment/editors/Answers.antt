use Rattle.std.proofs.Common.{refl}
use Rattle.mailx_vars.proofs.PlaceLemmas.{same-default}
use Rattle.mailx_vars.proofs.environment.editors.Goals as goal

pub returns : goal.returns
returns c = λ j. (same-default _ _ _ _ _ c.in_ok-editor.ensures c.variable.ensures refl j, same-default _ _ _ _ _ c.in_ok-visual.ensures c.variable-2.ensures refl j)
