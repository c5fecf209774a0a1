use Rattle.std.proofs.Common.{◌≡◌, length, map, take, vec_len, vec_capacity}
use Rattle.thread_view.proofs.sorting.numbers_by.Given as goal

-- the numbers so far
abbrev pub invariant-loop-pair : goal.invariant-loop-pair
invariant-loop-pair g l = (l.numbers.items ≡ map (λ p. p.1) (take l.pair-index l.pair-items)) × (vec_len l.numbers ≡ l.pair-index) × (vec_capacity l.numbers ≡ length l.pair-items)
