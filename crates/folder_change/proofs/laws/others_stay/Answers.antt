use Rattle.folder_change.proofs.ApplyLemmas.{apply-other}
use Rattle.folder_change.proofs.laws.others_stay.Goals as goal

pub returns : goal.returns
returns c = apply-other
