use Rattle.folder_change.proofs.LawLemmas.{rewrite-by_base}
use Rattle.folder_change.proofs.laws.rewrite_by_the_base.Goals as goal

pub returns : goal.returns
returns c = rewrite-by_base
