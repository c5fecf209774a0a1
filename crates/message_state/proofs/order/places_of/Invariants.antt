use Rattle.std.proofs.Common.{◌≡◌, ℕ, ◌-◌, ◌<◌, length, get_or}
use Rattle.message_state.proofs.order.places_of.Given as goal

-- the places so far
abbrev pub invariant-loop-p : goal.invariant-loop-p
invariant-loop-p l = record {
  long : length l.places.items ≡ length l.numbers;
  at : (q : ℕ) → q < l.p → get_or l.places.items (get_or l.numbers q 0 - 1) 0 ≡ q;
}
