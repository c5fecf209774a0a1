use Rattle.std.proofs.Common.{◌≡◌, subst, List, ℕ, Some}
use Rattle.mbox_scan.specs.Mailbox.{list_of, texts_of}
use Rattle.mbox_scan.proofs.MailboxLemmas.{list_of-mailbox}
use Rattle.mbox_scan.proofs.folder.Folder.count.Goals as goal

pub returns-clause-listed : goal.returns-clause-listed
returns-clause-listed c = subst (λ (b : List ℕ). list_of b ≡ Some (texts_of b)) c.self.view_is (list_of-mailbox _ c.self.invariant.mailbox)
