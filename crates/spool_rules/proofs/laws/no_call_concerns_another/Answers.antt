use Rattle.spool_rules.proofs.LawLemmas.{others_spared}
use Rattle.spool_rules.proofs.laws.no_call_concerns_another.Goals as goal

pub returns : goal.returns
returns c = others_spared
