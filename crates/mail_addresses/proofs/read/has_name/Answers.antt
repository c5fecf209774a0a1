use Rattle.mail_addresses.specs.Forms.{IsDisplayName}
use Rattle.mail_addresses.specs.Tokens.{tokens_in}
use Rattle.mail_addresses.proofs.MailboxLemmas.{at_none, at_some}
use Rattle.mail_addresses.proofs.NameLemmas.{has_text}
use Rattle.mail_addresses.proofs.read.has_name.Goals as goal

pub returns-in-None : goal.returns-in-None
returns-in-None c = λ name named. absurd (at_none _ _ _ c.in-None.is c.in_ok-name.ensures name named)

pub returns-in-Some : goal.returns-in-Some
returns-in-Some c =
    let name = c.in-Some.name in
    let named : IsDisplayName (tokens_in c.args.bytes.now) name = at_some _ name _ _ c.in-Some.is c.in_ok-name.ensures in
    has_text (tokens_in c.args.bytes.now) name c.bytes.result.now c.is_empty.result named c.bytes.ensures c.is_empty.ensures
