use Rattle.std.proofs.Common.{sym, ◌∙◌}
use Rattle.mail_addresses.specs.Tokens.{tokens_in}
use Rattle.mail_addresses.proofs.MailboxLemmas.{at_none}
use Rattle.mail_addresses.proofs.GroupLemmas.{piece_answers}
use Rattle.mail_addresses.proofs.read.read_piece.Goals as goal

pub returns-in-None : goal.returns-in-None
returns-in-None c =
    piece_answers c.args.keep c.read_group.result _ _ (tokens_in c.args.piece.now) (sym c.are_gaps.ensures ∙ c.if-are_gaps.false)
    (at_none _ _ _ c.in-None.is c.in_ok-address.ensures) c.read_group.ensures
