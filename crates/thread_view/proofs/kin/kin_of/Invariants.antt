use Rattle.std.proofs.Common.{◌≡◌, ◌<◌, ℕ, length, slice_index}
use Rattle.thread_view.specs.Arrays.{IsNextUnder}
use Rattle.thread_view.proofs.kin.kin_of.Given as goal

-- the first message after message k under each, and the next one after each that is done
abbrev pub invariant-loop-k : goal.invariant-loop-k
invariant-loop-k l = record {
  firsts : length l.first.items ≡ length l.parents;
  nexts : length l.next.items ≡ length l.parents;
  within : l.k < length l.parents;
  first_under : (p : ℕ) → p < length l.parents → IsNextUnder l.parents p l.k (slice_index l.first.items p);
  next_under : (m : ℕ) → l.k < m → m < length l.parents → IsNextUnder l.parents (slice_index l.parents m) m (slice_index l.next.items m);
  none_next : slice_index l.next.items 0 ≡ 0;
}

abbrev pub decreases-loop-k : goal.decreases-loop-k
decreases-loop-k l = l.k
