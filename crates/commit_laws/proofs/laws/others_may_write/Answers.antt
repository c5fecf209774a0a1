use Rattle.commit_laws.proofs.OtherLemmas.{others_may_write}
use Rattle.commit_laws.proofs.laws.others_may_write.Goals as goal

pub returns : goal.returns
returns c = others_may_write
