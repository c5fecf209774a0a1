use Rattle.std.proofs.Common.{length}
use Rattle.actor_ground.proofs.settling.+way_for.Given as goal

abbrev pub decreases-way_for : goal.decreases-way_for
decreases-way_for l = length l.entries.now
