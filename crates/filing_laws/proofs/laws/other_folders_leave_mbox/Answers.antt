use Rattle.filing_laws.proofs.OtherLemmas.{boxes_nothing, only_the_folder}
use Rattle.filing_laws.proofs.laws.other_folders_leave_mbox.Goals as goal

pub returns : goal.returns
returns c = record { boxed = boxes_nothing; own = only_the_folder }
