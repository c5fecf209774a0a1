use Rattle.std.proofs.Common.{◌≡◌, ◌≤◌, ◌<◌, ◌+◌, ℕ, length, slice_index}
use Rattle.thread_view.specs.Parents.{parent_of}
use Rattle.thread_view.proofs.parents.parents_of.Given as goal

-- the parents so far
abbrev pub invariant-loop-p : goal.invariant-loop-p
invariant-loop-p l = record {
  size : length l.parents.items ≡ length l.rows + 1;
  each : (k : ℕ) → k ≤ l.p → slice_index l.parents.items k ≡ parent_of l.rows k;
  others : (k : ℕ) → l.p < k → slice_index l.parents.items k ≡ 0;
}
