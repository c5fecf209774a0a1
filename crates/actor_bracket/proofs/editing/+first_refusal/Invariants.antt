use Rattle.std.proofs.Common.{length}
use Rattle.actor_bracket.proofs.editing.+first_refusal.Given as goal

abbrev pub decreases-first_refusal : goal.decreases-first_refusal
decreases-first_refusal l = length l.changes.now
