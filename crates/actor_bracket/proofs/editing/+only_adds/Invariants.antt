use Rattle.std.proofs.Common.{length}
use Rattle.actor_bracket.proofs.editing.+only_adds.Given as goal

abbrev pub decreases-only_adds : goal.decreases-only_adds
decreases-only_adds l = length l.changes.now
