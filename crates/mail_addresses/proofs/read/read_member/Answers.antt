use Rattle.std.proofs.Common.{sym, ◌∙◌}
use Rattle.mail_addresses.specs.Tokens.{tokens_in}
use Rattle.mail_addresses.proofs.MailboxLemmas.{at_none}
use Rattle.mail_addresses.proofs.ListingLemmas.{no_member}
use Rattle.mail_addresses.proofs.read.read_member.Goals as goal

pub returns-in-None : goal.returns-in-None
returns-in-None c = no_member (tokens_in c.args.piece.now) (sym c.are_gaps.ensures ∙ c.if-are_gaps.false) (at_none _ _ _ c.in-None.is c.in_ok-address.ensures)
