use Rattle.mail_search.proofs.FoundLemmas.{criteria-found, others-none}
use Rattle.mail_search.proofs.laws.criteria_are_found.Goals as goal

pub returns-clause-found : goal.returns-clause-found
returns-clause-found c = criteria-found

pub returns-clause-none : goal.returns-clause-none
returns-clause-none c = others-none
