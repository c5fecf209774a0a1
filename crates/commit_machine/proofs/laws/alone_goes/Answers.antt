use Rattle.commit_machine.proofs.runs.Worked.{alone_goes}
use Rattle.commit_machine.proofs.laws.alone_goes.Goals as goal

pub returns : goal.returns
returns c = alone_goes
