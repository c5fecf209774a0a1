use Rattle.commit_machine.proofs.runs.Stops.{stop_safe}
use Rattle.commit_machine.proofs.laws.stop_safe.Goals as goal

pub returns : goal.returns
returns c = stop_safe
