use Rattle.run_laws.proofs.FrontLemmas.{promises_stand}
use Rattle.run_laws.proofs.laws.promises_stand.Goals as goal

pub returns : goal.returns
returns c = promises_stand
