use Rattle.std.proofs.Common.{length}
use Rattle.actor_bracket.proofs.planning.+files_named.Given as goal

abbrev pub decreases-files_named : goal.decreases-files_named
decreases-files_named l = length l.changes.now
