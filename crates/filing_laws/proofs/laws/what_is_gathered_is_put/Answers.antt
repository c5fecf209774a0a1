use Rattle.filing_laws.proofs.GatheringLemmas.{gathered_stays, gathered_is_put}
use Rattle.filing_laws.proofs.laws.what_is_gathered_is_put.Goals as goal

pub returns : goal.returns
returns c = record { stays = gathered_stays; put = gathered_is_put }
