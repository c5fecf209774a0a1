use Rattle.run_laws.proofs.RunLemmas.{run_promises_stand}
use Rattle.run_laws.proofs.laws.run_promises_stand.Goals as goal

pub returns : goal.returns
returns c = run_promises_stand
