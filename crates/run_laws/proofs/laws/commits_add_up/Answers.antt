use Rattle.run_laws.proofs.ChangingLemmas.{commits_add_up}
use Rattle.run_laws.proofs.laws.commits_add_up.Goals as goal

pub returns : goal.returns
returns c = commits_add_up
