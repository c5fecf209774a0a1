use Rattle.commit_machine.proofs.runs.Worked.{worked_runs}
use Rattle.commit_machine.proofs.laws.worked_runs.Goals as goal

pub returns : goal.returns
returns c = worked_runs
