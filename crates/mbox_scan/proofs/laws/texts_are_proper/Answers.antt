use Rattle.mbox_scan.proofs.MailboxLemmas.{list_of-proper}
use Rattle.mbox_scan.proofs.laws.texts_are_proper.Goals as goal

pub returns : goal.returns
returns c = list_of-proper
