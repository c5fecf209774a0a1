use Rattle.std.proofs.Common.{refl}
use Rattle.mailx_vars.proofs.PlaceLemmas.{same-default}
use Rattle.mailx_vars.proofs.environment.outboxes.Goals as goal

pub returns : goal.returns
returns c = λ j. (same-default _ _ _ _ _ c.in_ok-mbox.ensures c.variable.ensures refl j, same-default _ _ _ _ _ c.in_ok-dead.ensures c.variable-2.ensures refl j)
