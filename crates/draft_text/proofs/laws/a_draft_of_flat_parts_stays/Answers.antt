use Rattle.draft_text.proofs.FlatLemmas.{flattened-same}
use Rattle.draft_text.proofs.laws.a_draft_of_flat_parts_stays.Goals as goal

pub returns : goal.returns
returns c = flattened-same
