use Rattle.mail_addresses.proofs.TotalLemmas.{reads_or_fault}
use Rattle.mail_addresses.proofs.laws.each_value_is_read.Goals as goal

pub returns : goal.returns
returns c = reads_or_fault
