use Rattle.std.proofs.Common.{refl}
use Rattle.compose_tilde.specs.Escapes.{escapes}
use Rattle.compose_tilde.proofs.escape.rows.Goals as goal

pub returns : goal.returns
unfolding escapes
returns c = refl
