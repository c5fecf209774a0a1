use Rattle.folder_change.proofs.LawLemmas.{add-appends}
use Rattle.folder_change.proofs.laws.add_appends.Goals as goal

pub returns : goal.returns
returns c = add-appends
