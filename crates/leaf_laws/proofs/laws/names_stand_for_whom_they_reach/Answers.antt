use Rattle.leaf_laws.proofs.ReachLemmas.{added-are-reached, given-are-added, reached-are-added}
use Rattle.leaf_laws.proofs.laws.names_stand_for_whom_they_reach.Goals as goal

pub returns : goal.returns
returns c = record { only = added-are-reached; given = given-are-added; all = reached-are-added }
