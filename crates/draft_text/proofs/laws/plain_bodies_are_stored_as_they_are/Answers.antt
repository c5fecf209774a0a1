use Rattle.draft_text.proofs.BodyLemmas.{plain-stored}
use Rattle.draft_text.proofs.laws.plain_bodies_are_stored_as_they_are.Goals as goal

pub returns : goal.returns
returns c = plain-stored
