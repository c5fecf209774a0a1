use Rattle.std.proofs.Common.{length}
use Rattle.actor_bracket.proofs.planning.+way_at.Given as goal

abbrev pub decreases-way_at : goal.decreases-way_at
decreases-way_at l = length l.made.now
