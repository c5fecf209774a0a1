use Rattle.folder_change.proofs.LawLemmas.{front-prepends}
use Rattle.folder_change.proofs.laws.front_prepends.Goals as goal

pub returns : goal.returns
returns c = front-prepends
