use Rattle.run_laws.proofs.PlacedLemmas.{done-have-places}
use Rattle.run_laws.proofs.laws.done_have_places.Goals as goal

pub returns : goal.returns
returns c = done-have-places
