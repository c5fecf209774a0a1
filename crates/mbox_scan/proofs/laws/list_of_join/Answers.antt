use Rattle.mbox_scan.proofs.MailboxLemmas.{list_of-join}
use Rattle.mbox_scan.proofs.laws.list_of_join.Goals as goal

pub returns : goal.returns
returns c = list_of-join
