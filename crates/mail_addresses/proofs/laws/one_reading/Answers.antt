use Rattle.mail_addresses.proofs.UniqueLemmas.{reads_unique, fault_unique, reads_no_fault}
use Rattle.mail_addresses.proofs.laws.one_reading.Goals as goal

pub returns : goal.returns
returns c = record { list = reads_unique; fault = fault_unique; either = reads_no_fault }
