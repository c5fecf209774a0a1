use Rattle.std.proofs.Common.{length}
use Rattle.actor_disk.proofs.starting.+name_a_record.Given as goal

abbrev pub decreases-name_a_record : goal.decreases-name_a_record
decreases-name_a_record l = length l.entries.now
