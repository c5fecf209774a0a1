use Rattle.std.proofs.Common.{◌≡◌, ℕ, false, ◌+◌, ◌<◌}
use Rattle.message_state.specs.LiveRows.{stands_at}
use Rattle.message_state.proofs.row_list.is_without.Given as goal

abbrev pub invariant-loop-i : goal.invariant-loop-i
invariant-loop-i l = (j : ℕ) → j < l.i → stands_at l.standing l.rows (l.start + j) ≡ false
