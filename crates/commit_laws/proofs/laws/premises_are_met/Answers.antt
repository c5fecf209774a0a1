use Rattle.commit_laws.proofs.PremiseLemmas.{premises_are_met}
use Rattle.commit_laws.proofs.laws.premises_are_met.Goals as goal

pub returns : goal.returns
returns c = premises_are_met
