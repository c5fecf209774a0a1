use Rattle.core_fact.proofs.Interleavings.{places_are_folded}
use Rattle.core_fact.proofs.laws.places_are_folded.Goals as goal

pub returns : goal.returns
returns c = places_are_folded
