use Rattle.mail_addresses.proofs.TokenUnique.{tokens_unique}
use Rattle.mail_addresses.proofs.laws.tokens_are_the_value.Goals as goal

pub returns : goal.returns
returns c = record { joined = λ value ts are. are.joined; one = tokens_unique }
