use Rattle.mail_delivery.proofs.RequestLemmas.{users-once}
use Rattle.mail_delivery.proofs.NamedLemmas.{all-named}
use Rattle.mail_delivery.proofs.laws.users_are_once.Goals as goal

pub returns : goal.returns
returns c = record { once = users-once; all = all-named }
