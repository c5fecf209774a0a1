use Rattle.std.proofs.Common.{length, ◌-◌, ◌≡◌, ℕ, false, ◌<◌, ◌≤◌}
use Rattle.message_state.specs.LiveRows.{stands_at}
use Rattle.message_state.proofs.row_list.next_in.Given as goal

abbrev pub invariant-loop-k : goal.invariant-loop-k
invariant-loop-k l = (l.from ≤ l.k) × ((j : ℕ) → l.from ≤ j → j < l.k → stands_at l.standing l.rows j ≡ false)

abbrev pub decreases-loop-k : goal.decreases-loop-k
decreases-loop-k l = length l.rows - l.k
