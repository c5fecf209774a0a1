use Rattle.commit_machine.proofs.runs.Stops.{only_decisions}
use Rattle.commit_machine.proofs.laws.only_decisions.Goals as goal

pub returns : goal.returns
returns c = only_decisions
