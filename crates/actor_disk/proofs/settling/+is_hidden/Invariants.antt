use Rattle.std.proofs.Common.{length}
use Rattle.actor_disk.proofs.settling.+is_hidden.Given as goal

abbrev pub decreases-is_hidden : goal.decreases-is_hidden
decreases-is_hidden l = length l.members.now
