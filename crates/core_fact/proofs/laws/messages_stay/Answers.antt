use Rattle.core_fact.proofs.Messages.{messages_stay}
use Rattle.core_fact.proofs.laws.messages_stay.Goals as goal

pub returns : goal.returns
returns c = messages_stay
