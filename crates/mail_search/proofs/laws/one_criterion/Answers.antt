use Rattle.mail_search.proofs.CriterionLemmas.{one_key}
use Rattle.mail_search.proofs.laws.one_criterion.Goals as goal

pub returns : goal.returns
returns c = one_key
