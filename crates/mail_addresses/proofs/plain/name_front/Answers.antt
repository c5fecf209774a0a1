use Rattle.mail_addresses.proofs.PlainLemmas.{name_none}
use Rattle.mail_addresses.proofs.plain.name_front.Goals as goal

pub returns-in-Some : goal.returns-in-Some
returns-in-Some c = name_none c.args.bytes.now c.in-Some.back.now c.in-Some.ensures
