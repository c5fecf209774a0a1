use Rattle.std.proofs.Common.{◌≡◌, ℕ, true, length}
use Rattle.thread_view.specs.Arrays.{is_done, end_of, HavePaths, IsTrail, StartsAt}
use Rattle.thread_view.proofs.cycles.settle.Given as goal

-- what is left of the trail leads to a message that is done
abbrev pub invariant-loop-message : goal.invariant-loop-message
invariant-loop-message l = record {
  dones : length l.done.items ≡ length l.parents;
  trail : IsTrail l.parents l.done.items l.trail.items;
  leads : is_done l.done.items (end_of l.parents l.trail.items l.k) ≡ true;
  start : StartsAt l.trail.items l.k;
  paths : HavePaths l.parents l.done.items;
  kept : (m : ℕ) → is_done l.initial.done.items m ≡ true → is_done l.done.items m ≡ true;
}

abbrev pub decreases-loop-message : goal.decreases-loop-message
decreases-loop-message l = goal.left-loop-message l
