use Rattle.std.proofs.Common.{◌<◌, ◌≤◌, ℕ, List, length}
use Rattle.thread_view.specs.Arrays.{ArePathsIn, IsLevel}
use Rattle.thread_view.proofs.WalkLemmas.{IsWalked, IsOnPath}
use Rattle.thread_view.proofs.walk.following.Given as goal

-- x stands above k or is k, and each message under it comes before k or is k
abbrev pub invariant-loop-x : goal.invariant-loop-x
invariant-loop-x l = record {
  within : l.x < length l.parents;
  level : IsLevel l.parents l.x l.height;
  low : l.height ≤ l.fn.level;
  on : (path : ℕ → List ℕ) → ArePathsIn l.parents path → IsOnPath (path l.k) (path l.x);
  walked : (path : ℕ → List ℕ) → ArePathsIn l.parents path → IsWalked l.parents path l.k l.x;
}

abbrev pub decreases-loop-x : goal.decreases-loop-x
decreases-loop-x l = l.height
