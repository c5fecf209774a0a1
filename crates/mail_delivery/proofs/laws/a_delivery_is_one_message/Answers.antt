use Rattle.mail_delivery.proofs.ProperLemmas.{delivered-proper}
use Rattle.mail_delivery.proofs.laws.a_delivery_is_one_message.Goals as goal

pub returns : goal.returns
returns c = delivered-proper
