use Rattle.commit_machine.proofs.runs.Troubles.{troubled_runs}
use Rattle.commit_machine.proofs.laws.troubled_runs.Goals as goal

pub returns : goal.returns
returns c = troubled_runs
