use Rattle.std.proofs.Common.{arith}
use Rattle.std.proofs.lemmas.Grind.{common_steps}
use Rattle.message_show.specs.Summary.{columns}
use Rattle.message_show.proofs.columns.columns.Goals as goal

pub returns : goal.returns
unfolding columns
returns c = grind (arith, common_steps)
