use Rattle.draft_text.proofs.FoundLemmas.{finds-draft}
use Rattle.draft_text.proofs.laws.each_field_is_found.Goals as goal

pub returns : goal.returns
returns c = finds-draft
