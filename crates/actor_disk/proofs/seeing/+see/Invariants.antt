use Rattle.std.proofs.Common.{length}
use Rattle.actor_disk.proofs.seeing.+see.Given as goal

abbrev pub decreases-see : goal.decreases-see
decreases-see l = length l.holders.now
