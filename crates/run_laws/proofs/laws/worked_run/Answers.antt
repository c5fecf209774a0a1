use Rattle.run_laws.proofs.WorkedRun.{worked-run}
use Rattle.run_laws.proofs.laws.worked_run.Goals as goal

pub returns : goal.returns
returns c = worked-run
