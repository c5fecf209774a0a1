use Rattle.std.proofs.Common.{refl}
use Rattle.mailx_vars.proofs.PlaceLemmas.{same-default}
use Rattle.mailx_vars.proofs.environment.inboxes.Goals as goal

pub returns : goal.returns
returns c = λ j. (same-default _ _ _ _ _ c.in_ok-mail.ensures c.variable.ensures refl j, same-default _ _ _ _ _ c.in_ok-rc.ensures c.variable-2.ensures refl j)
