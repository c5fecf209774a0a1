use Rattle.std.proofs.lemmas.List.Sorted.{IsPermutation-trans}
use Rattle.leaf_cases.proofs.view.order_of.Goals as goal

pub loop-pair-preserved : goal.loop-pair-preserved
loop-pair-preserved c = IsPermutation-trans _ _ _ c.loop-pair.invariant c.swap_places.ensures
