use Rattle.std.proofs.Common.{length}
use Rattle.actor_disk.proofs.settling.+placed_by.Given as goal

abbrev pub decreases-placed_by : goal.decreases-placed_by
decreases-placed_by l = length l.members.now
