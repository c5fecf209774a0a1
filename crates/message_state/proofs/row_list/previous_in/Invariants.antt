use Rattle.std.proofs.Common.{◌≡◌, ℕ, false, ◌<◌, ◌≤◌}
use Rattle.message_state.specs.LiveRows.{stands_at}
use Rattle.message_state.proofs.row_list.previous_in.Given as goal

abbrev pub invariant-loop-k : goal.invariant-loop-k
invariant-loop-k l = (l.k ≤ l.end) × ((j : ℕ) → l.k ≤ j → j < l.end → stands_at l.standing l.rows j ≡ false)

abbrev pub decreases-loop-k : goal.decreases-loop-k
decreases-loop-k l = l.k
