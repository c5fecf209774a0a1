use Rattle.leaf_laws.proofs.ShowLemmas.{kept-are-shown}
use Rattle.leaf_laws.proofs.laws.kept_fields_are_shown.Goals as goal

pub returns : goal.returns
returns c = kept-are-shown
