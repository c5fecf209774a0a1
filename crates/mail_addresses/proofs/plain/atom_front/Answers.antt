use Rattle.mail_addresses.proofs.PlainLemmas.{atom_front_is}
use Rattle.mail_addresses.proofs.plain.atom_front.Goals as goal

pub returns-else-is_empty : goal.returns-else-is_empty
returns-else-is_empty c =
    atom_front_is c.args.bytes.now c.split_at.result.0.now c.split_at.result.1.now c.atom_length.result c.split_at.ensures.front
    c.split_at.ensures.back c.atom_length.ensures.all c.atom_length.ensures.ends c.is_empty.result c.is_empty.ensures c.if-is_empty.false
