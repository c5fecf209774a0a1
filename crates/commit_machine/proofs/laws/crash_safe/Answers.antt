use Rattle.commit_machine.proofs.runs.Moments.{crash_safe}
use Rattle.commit_machine.proofs.laws.crash_safe.Goals as goal

pub returns : goal.returns
returns c = crash_safe
