use Rattle.commit_machine.proofs.runs.Ends.{front_is_run}
use Rattle.commit_machine.proofs.laws.front_is_run.Goals as goal

pub returns : goal.returns
returns c = front_is_run
