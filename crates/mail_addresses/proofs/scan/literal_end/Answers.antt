use Rattle.mail_addresses.proofs.TokenLemmas.{literal_end_is}
use Rattle.mail_addresses.proofs.scan.literal_end.Goals as goal

pub returns : goal.returns
returns c = literal_end_is c.args.bytes.now c.memchr.result c.memchr.ensures
