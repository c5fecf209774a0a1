use Rattle.core_fact.proofs.Interleavings.{each_step_settles}
use Rattle.core_fact.proofs.laws.each_step_settles.Goals as goal

pub returns : goal.returns
returns c = each_step_settles
