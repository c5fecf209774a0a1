use Rattle.folder_change.proofs.LawLemmas.{rewrite-keeps}
use Rattle.folder_change.proofs.laws.rewrite_keeps_the_rest.Goals as goal

pub returns : goal.returns
returns c = rewrite-keeps
