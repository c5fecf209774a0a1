use Rattle.commit_machine.proofs.runs.Stops.{decisions_apply}
use Rattle.commit_machine.proofs.laws.decisions_apply.Goals as goal

pub returns : goal.returns
returns c = decisions_apply
