use Rattle.commit_laws.proofs.RunLemmas.{folders_are_mailboxes}
use Rattle.commit_laws.proofs.laws.folders_are_mailboxes.Goals as goal

pub returns : goal.returns
returns c = folders_are_mailboxes
