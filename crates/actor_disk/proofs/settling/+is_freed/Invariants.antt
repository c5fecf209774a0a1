use Rattle.std.proofs.Common.{length}
use Rattle.actor_disk.proofs.settling.+is_freed.Given as goal

abbrev pub decreases-is_freed : goal.decreases-is_freed
decreases-is_freed l = length l.members.now
