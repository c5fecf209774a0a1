use Rattle.std.proofs.Common.{◌≡◌, ℕ, List, length, map, vec_len, vec_capacity}
use Rattle.std.specs.List.{range_with_len}
use Rattle.thread_view.specs.Pairs.{text_of}
use Rattle.thread_view.specs.Parents.{row_at}
use Rattle.thread_view.specs.Sorting.{lower_of}
use Rattle.thread_view.proofs.sorting.lower_texts.Given as goal

-- the messages so far with their keys
abbrev pub invariant-loop-p : goal.invariant-loop-p
invariant-loop-p l = record {
  pairs : map {B = List ℕ × ℕ} (λ p. (p.0.items, p.1)) l.pairs.items ≡ map (λ k. (lower_of (text_of l.fn.key) (row_at l.rows k), k)) (range_with_len 1 l.p);
  count : vec_len l.pairs ≡ l.p;
  room : vec_capacity l.pairs ≡ length l.rows;
}
