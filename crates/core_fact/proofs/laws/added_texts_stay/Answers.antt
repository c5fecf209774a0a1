use Rattle.core_fact.proofs.Betweens.{added-texts-stay}
use Rattle.core_fact.proofs.Messages.{messages_stay}
use Rattle.core_fact.proofs.laws.added_texts_stay.Goals as goal

pub returns : goal.returns
returns c = added-texts-stay messages_stay
