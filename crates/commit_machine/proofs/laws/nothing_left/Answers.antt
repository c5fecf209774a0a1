use Rattle.commit_machine.proofs.runs.Moments.{nothing_left}
use Rattle.commit_machine.proofs.laws.nothing_left.Goals as goal

pub returns : goal.returns
returns c = nothing_left
