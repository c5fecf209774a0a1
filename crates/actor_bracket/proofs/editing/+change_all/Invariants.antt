use Rattle.std.proofs.Common.{length}
use Rattle.actor_bracket.proofs.editing.+change_all.Given as goal

abbrev pub decreases-change_all : goal.decreases-change_all
decreases-change_all l = length l.changes.now
