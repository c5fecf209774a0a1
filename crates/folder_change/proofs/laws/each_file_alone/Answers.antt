use Rattle.folder_change.proofs.ApplyLemmas.{apply-alone}
use Rattle.folder_change.proofs.laws.each_file_alone.Goals as goal

pub returns : goal.returns
returns c = apply-alone
