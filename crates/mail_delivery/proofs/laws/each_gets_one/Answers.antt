use Rattle.mail_delivery.proofs.AddLemmas.{each-gets-one}
use Rattle.mail_delivery.proofs.laws.each_gets_one.Goals as goal

pub returns : goal.returns
returns c = each-gets-one
