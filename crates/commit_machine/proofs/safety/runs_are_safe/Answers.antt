use Rattle.commit_machine.proofs.runs.Safety.{runs_are_safe}
use Rattle.commit_machine.proofs.safety.runs_are_safe.Goals as goal

pub returns : goal.returns
returns c = runs_are_safe
