use Rattle.folder_change.proofs.ApplyLemmas.{apply-append}
use Rattle.folder_change.proofs.laws.applied_in_order.Goals as goal

pub returns : goal.returns
returns c = apply-append
