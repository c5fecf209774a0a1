use Rattle.core_fact.proofs.ToldLemmas.{calls_can_be_told}
use Rattle.core_fact.proofs.laws.calls_can_be_told.Goals as goal

pub returns : goal.returns
returns c = calls_can_be_told
