use Rattle.run_laws.proofs.RunLemmas.{runs_show_steps}
use Rattle.run_laws.proofs.laws.runs_show_steps.Goals as goal

pub returns : goal.returns
returns c = runs_show_steps
