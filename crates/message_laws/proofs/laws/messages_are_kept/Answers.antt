use Rattle.message_laws.proofs.RunLemmas.{messages_are_kept}
use Rattle.message_laws.proofs.laws.messages_are_kept.Goals as goal

pub returns : goal.returns
returns c = messages_are_kept
