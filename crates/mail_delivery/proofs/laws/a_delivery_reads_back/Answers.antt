use Rattle.mail_delivery.proofs.ReadLemmas.{reads_back}
use Rattle.mail_delivery.proofs.laws.a_delivery_reads_back.Goals as goal

pub returns : goal.returns
returns c = reads_back
