use Rattle.mbox_scan.proofs.MailboxLemmas.{list_of-mailbox}
use Rattle.mbox_scan.proofs.folder.Folder.grow.Goals as goal

pub returns-clause-listed : goal.returns-clause-listed
returns-clause-listed c = list_of-mailbox _ c.add_tail.ensures.scanned.mailbox
