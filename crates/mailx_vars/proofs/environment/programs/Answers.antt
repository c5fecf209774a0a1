use Rattle.std.proofs.Common.{refl}
use Rattle.mailx_vars.proofs.PlaceLemmas.{same-default}
use Rattle.mailx_vars.proofs.environment.programs.Goals as goal

pub returns : goal.returns
returns c = λ j. (same-default _ _ _ _ _ c.in_ok-lister.ensures c.variable.ensures refl j, same-default _ _ _ _ _ c.in_ok-shell.ensures c.variable-2.ensures refl j)
