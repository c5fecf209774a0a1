use Rattle.mail_delivery.proofs.AddLemmas.{done-stands}
use Rattle.mail_delivery.proofs.laws.done_stands.Goals as goal

pub returns : goal.returns
returns c = done-stands
