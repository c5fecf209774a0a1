use Rattle.std.proofs.Common.{length}
use Rattle.actor_core.proofs.turning.+names_a_record.Given as goal

abbrev pub decreases-names_a_record : goal.decreases-names_a_record
decreases-names_a_record l = length l.members.now
