use Rattle.core_fact.proofs.Runs.{runs-are-steps}
use Rattle.core_fact.proofs.laws.runs_are_steps.Goals as goal

pub returns : goal.returns
returns c = runs-are-steps
