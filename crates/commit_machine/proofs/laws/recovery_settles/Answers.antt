use Rattle.commit_machine.proofs.runs.Ends.{recovery_settles}
use Rattle.commit_machine.proofs.laws.recovery_settles.Goals as goal

pub returns : goal.returns
returns c = recovery_settles
