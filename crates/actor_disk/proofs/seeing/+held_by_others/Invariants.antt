use Rattle.std.proofs.Common.{length}
use Rattle.actor_disk.proofs.seeing.+held_by_others.Given as goal

abbrev pub decreases-held_by_others : goal.decreases-held_by_others
decreases-held_by_others l = length l.holders.now
