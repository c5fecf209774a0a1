use Rattle.mbox_scan.proofs.MessageLemmas.{message-proper, proper-message}
use Rattle.mbox_scan.proofs.laws.messages_are_proper.Goals as goal

pub returns : goal.returns
returns c = λ t. (message-proper t, proper-message t)
