-- The order of a threaded view.
use Rattle.std.specs.Prelude.{◌≡◌, ℕ, ◌-◌, ◌≤◌, List, [], ◌∷◌, ◌++◌, length, map}
use Rattle.std.specs.Ordering.{nat_cmp}
use Rattle.std.specs.Cmp.Lexicographic.{slice_cmp}
use Rattle.std.specs.List.{range_with_len}
use Rattle.std.specs.List.Sorted.{IsPermutation, IsStrictlySortedBy}
use Rattle.message_state.specs.declared.row.Row.{Row}
use Rattle.thread_view.specs.Cycles.{IsUnder}
use Rattle.thread_view.specs.Parents.{parent_of}

-- k is a message
abbrev pub IsMessage : List Row → ℕ → Type 0
IsMessage rows k = (1 ≤ k) × (k ≤ length rows)

-- Each message has a path: the numbers of those that it stands under, outermost first, and its own. So it is the path of
-- its parent in the thread with its own number at the end, and no message, 0, has the empty path
pub record ArePaths (rows : List Row) (path : ℕ → List ℕ) : Type 0 where
  pub none : path 0 ≡ []
  pub each : (k : ℕ) → IsMessage rows k → (p : ℕ) × IsUnder (parent_of rows) k p × (path k ≡ path p ++ k ∷ [])

-- The view is threaded: each message stands in it once; the paths ascend, compared number by number, so that a message
-- is followed by those under it, and roots and siblings come by number; the depth is how many a message stands under
pub record IsThreaded (rows : List Row) (order depth : List ℕ) : Type 0 where
  pub path : ℕ → List ℕ
  pub paths : ArePaths rows path
  pub once : IsPermutation (range_with_len 1 (length rows)) order
  pub ascend : IsStrictlySortedBy (slice_cmp nat_cmp) (map path order)
  pub depths : depth ≡ map (λ k. length (path k) - 1) order
