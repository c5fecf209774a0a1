use Rattle.std.proofs.Common.{inl, ◌∙◌}
use Rattle.mail_addresses.proofs.KeepLemmas.{first_kept}
use Rattle.mail_addresses.proofs.MailboxLemmas.{at_none}
use Rattle.mail_addresses.proofs.read.first_read.Goals as goal

pub returns-in-None : goal.returns-in-None
returns-in-None c =
    let read = at_none c.in_ok-bad.bad _ _ c.in-None.is c.in_ok-bad.ensures in
    inl (read.0, read.2, c.first_of.ensures ∙ first_kept c.new-list.result.items c.read_pieces.new.list.items read.0 c.new-list.ensures.items read.1)
