use Rattle.std.proofs.Common.{length}
use Rattle.actor_bracket.proofs.editing.+files_of.Given as goal

abbrev pub decreases-files_of : goal.decreases-files_of
decreases-files_of l = length l.made.now
