use Rattle.std.proofs.Common.{◌≡◌, length, map, vec_len, vec_capacity}
use Rattle.std.specs.List.{range_with_len}
use Rattle.thread_view.specs.Parents.{row_at}
use Rattle.thread_view.specs.Sorting.{seconds_of}
use Rattle.thread_view.proofs.sorting.by_date.Given as goal

-- the messages so far with their keys
abbrev pub invariant-loop-p : goal.invariant-loop-p
invariant-loop-p l = record {
  pairs : l.pairs.items ≡ map (λ k. (seconds_of (row_at l.rows k), k)) (range_with_len 1 l.p);
  count : vec_len l.pairs ≡ l.p;
  room : vec_capacity l.pairs ≡ length l.rows;
}
