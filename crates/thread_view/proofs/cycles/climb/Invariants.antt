use Rattle.std.proofs.Common.{◌≡◌, ◌<◌, ◌-◌, length}
use Rattle.thread_view.specs.Arrays.{end_of, ArePlaces, IsTrail, StartsAt}
use Rattle.thread_view.proofs.cycles.climb.Given as goal

-- the trail so far leads to x
abbrev pub invariant-loop-x : goal.invariant-loop-x
invariant-loop-x l = record {
  size : length l.places.items ≡ length l.parents;
  within : l.x < length l.parents;
  trail : IsTrail l.parents l.done l.trail.items;
  start : StartsAt l.trail.items l.k;
  leads : end_of l.parents l.trail.items l.k ≡ l.x;
  noted : ArePlaces l.places.items l.trail.items;
}

abbrev pub decreases-loop-x : goal.decreases-loop-x
decreases-loop-x l = length l.parents - length l.trail.items
