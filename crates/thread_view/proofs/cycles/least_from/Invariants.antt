use Rattle.std.proofs.Common.{ℕ, ◌<◌, ◌≤◌, length, slice_index}
use Rattle.thread_view.proofs.cycles.least_from.Given as goal

-- the least so far
abbrev pub invariant-loop-i : goal.invariant-loop-i
invariant-loop-i l = record {
  low : l.start ≤ l.least;
  high : l.least < length l.trail;
  least : (i : ℕ) → l.start ≤ i → i < l.i → slice_index l.trail l.least ≤ slice_index l.trail i;
}
