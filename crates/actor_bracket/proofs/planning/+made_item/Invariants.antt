use Rattle.std.proofs.Common.{length}
use Rattle.actor_bracket.proofs.planning.+made_item.Given as goal

abbrev pub decreases-made_item : goal.decreases-made_item
decreases-made_item l = length l.made.now
