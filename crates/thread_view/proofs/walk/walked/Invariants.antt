use Rattle.std.proofs.Common.{◌≡◌, ◌≢◌, ◌+◌, ◌-◌, ◌<◌, ◌≤◌, ℕ, List, length, map}
use Rattle.thread_view.specs.Arrays.{ArePathsIn, IsLevel}
use Rattle.thread_view.proofs.WalkLemmas.{IsListed}
use Rattle.thread_view.proofs.walk.walked.Given as goal

-- the messages so far, and the one that is next
abbrev pub invariant-loop-k : goal.invariant-loop-k
invariant-loop-k l = record {
  within : l.k < length l.parents;
  level : l.k ≢ 0 → IsLevel l.parents l.k l.level;
  some : l.k ≢ 0 → 1 ≤ l.level;
  low : l.level ≤ length l.order.items + 1;
  short : l.k ≢ 0 → length l.order.items + 1 ≤ length l.parents;
  listed : (path : ℕ → List ℕ) → ArePathsIn l.parents path → IsListed l.parents path l.order.items l.k;
  depths : (path : ℕ → List ℕ) → ArePathsIn l.parents path → l.depth.items ≡ map (λ k. length (path k) - 1) l.order.items;
}

abbrev pub decreases-loop-k : goal.decreases-loop-k
decreases-loop-k l = length l.parents - length l.order.items
