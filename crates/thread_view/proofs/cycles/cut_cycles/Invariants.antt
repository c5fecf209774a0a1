use Rattle.std.proofs.Common.{◌≡◌, ◌<◌, [], ℕ, true, length}
use Rattle.thread_view.specs.Arrays.{is_done, AreCut, HavePaths, IsParentArray}
use Rattle.thread_view.proofs.cycles.cut_cycles.Given as goal

-- the messages so far are done
abbrev pub invariant-loop-k : goal.invariant-loop-k
invariant-loop-k l = record {
  array : IsParentArray l.parents.items;
  cut : AreCut l.initial.parents.items l.parents.items;
  paths : HavePaths l.parents.items l.done.items;
  dones : length l.done.items ≡ length l.parents.items;
  places : length l.places.items ≡ length l.parents.items;
  empty : l.trail.items ≡ [];
  done : (m : ℕ) → m < l.k → is_done l.done.items m ≡ true;
}
