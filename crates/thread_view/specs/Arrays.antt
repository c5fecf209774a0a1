-- What the arrays are that threads are made with. An array is indexed by the number of a message, and place 0 is that of none.
use Rattle.std.specs.Prelude.{◌≡◌, ◌≢◌, ℕ, ◌+◌, ◌-◌, ◌<◌, ◌≤◌, ◌==◌, Bool, true, false, List, [], ◌∷◌, ◌++◌, length, map, slice_index, slice_index_or, ◌⊎◌, if◌then◌else◌}
use Rattle.std.specs.declared.cmp.Ordering.TheVariants.{Less}
use Rattle.std.specs.Ordering.{nat_cmp}
use Rattle.std.specs.Cmp.Lexicographic.{slice_cmp}
use Rattle.std.specs.List.{range_with_len}
use Rattle.std.specs.List.Sorted.{IsPermutation, IsStrictlySortedBy}
use Rattle.thread_view.specs.Cycles.{LosesParent}

-- an array of parents: none has none, and each parent has its place
pub record IsParentArray (parents : List ℕ) : Type 0 where
  pub none : slice_index parents 0 ≡ 0
  pub within : (k : ℕ) → k < length parents → slice_index parents k < length parents

-- message k is done
abbrev pub is_done : List Bool → ℕ → Bool
is_done done k = slice_index_or done k false

-- each message that is done has a path, and its parent is done; none is done
pub record HavePaths (parents : List ℕ) (done : List Bool) : Type 0 where
  pub path : ℕ → List ℕ
  pub none : path 0 ≡ []
  pub none_done : is_done done 0 ≡ true
  pub each : (k : ℕ) → 1 ≤ k → is_done done k ≡ true → path k ≡ path (slice_index parents k) ++ k ∷ []
  pub closed : (k : ℕ) → is_done done k ≡ true → is_done done (slice_index parents k) ≡ true

-- the parents are those before, or were cut: the least message of a cycle has lost its parent
pub record AreCut (before parents : List ℕ) : Type 0 where
  pub size : length parents ≡ length before
  pub each : (k : ℕ) → 1 ≤ k → (slice_index parents k ≡ slice_index before k) ⊎ (LosesParent (slice_index before) k × (slice_index parents k ≡ 0))

-- the messages of a trail aren't done, differ, and each is followed by its parent
pub record IsTrail (parents : List ℕ) (done : List Bool) (trail : List ℕ) : Type 0 where
  pub within : (i : ℕ) → i < length trail → (1 ≤ slice_index trail i) × (slice_index trail i < length parents)
  pub undone : (i : ℕ) → i < length trail → is_done done (slice_index trail i) ≡ false
  pub next : (i : ℕ) → i + 1 < length trail → slice_index parents (slice_index trail i) ≡ slice_index trail (i + 1)
  pub differ : (i j : ℕ) → i < j → j < length trail → slice_index trail i ≢ slice_index trail j

-- the message to which the trail leads: the parent of its last one, or where it starts if it is empty
abbrev pub end_of : List ℕ → List ℕ → ℕ → ℕ
end_of parents trail start = if length trail == 0 then start else slice_index parents (slice_index trail (length trail - 1))

-- the trail starts at a message, or is empty
abbrev pub StartsAt : List ℕ → ℕ → Type 0
StartsAt trail k = 0 < length trail → slice_index trail 0 ≡ k

-- each message of the trail has its place there noted
abbrev pub ArePlaces : List ℕ → List ℕ → Type 0
ArePlaces places trail = (i : ℕ) → i < length trail → slice_index places (slice_index trail i) ≡ i

-- the paths of messages, by their parents
pub record ArePathsIn (parents : List ℕ) (path : ℕ → List ℕ) : Type 0 where
  pub none : path 0 ≡ []
  pub each : (k : ℕ) → 1 ≤ k → k < length parents → path k ≡ path (slice_index parents k) ++ k ∷ []

-- each message has a path
abbrev pub IsForest : List ℕ → Type 0
IsForest parents = (path : ℕ → List ℕ) × ArePathsIn parents path

-- how many messages the path of message k has
abbrev pub IsLevel : List ℕ → ℕ → ℕ → Type 0
IsLevel parents k level = (path : ℕ → List ℕ) → ArePathsIn parents path → length (path k) ≡ level

-- k is a message
abbrev pub IsIn : List ℕ → ℕ → Type 0
IsIn parents k = (1 ≤ k) × (k < length parents)

-- the path of one message is before that of another, or is the same
abbrev pub IsAtMost : List ℕ → List ℕ → Type 0
IsAtMost a b = (slice_cmp nat_cmp a b ≡ Less) ⊎ (a ≡ b)

-- message s comes right after message k by their paths, or is 0 if none does
abbrev pub IsFollowing : List ℕ → (ℕ → List ℕ) → ℕ → ℕ → Type 0
IsFollowing parents path k s =
    ((s ≡ 0) × ((m : ℕ) → IsIn parents m → IsAtMost (path m) (path k)))
    ⊎ (IsIn parents s × (slice_cmp nat_cmp (path k) (path s) ≡ Less) × ((m : ℕ) → IsIn parents m → IsAtMost (path m) (path k) ⊎ IsAtMost (path s) (path m)))

-- the order has each message once, by its path, and the depths are how many each stands under
pub record AreInThreads (parents : List ℕ) (path : ℕ → List ℕ) (order depth : List ℕ) : Type 0 where
  pub once : IsPermutation (range_with_len 1 (length parents - 1)) order
  pub ascend : IsStrictlySortedBy (slice_cmp nat_cmp) (map path order)
  pub depths : depth ≡ map (λ k. length (path k) - 1) order

-- c is the first message after message low with parent p, or 0 if there is none
abbrev pub IsNextUnder : List ℕ → ℕ → ℕ → ℕ → Type 0
IsNextUnder parents p low c =
    ((c ≡ 0) × ((m : ℕ) → low < m → m < length parents → slice_index parents m ≢ p))
    ⊎ ((low < c) × (c < length parents) × (slice_index parents c ≡ p) × ((m : ℕ) → low < m → m < c → slice_index parents m ≢ p))

-- the first message under each, and the next one with the same parent
pub record AreKin (parents first next : List ℕ) : Type 0 where
  pub firsts : length first ≡ length parents
  pub nexts : length next ≡ length parents
  pub first_under : (p : ℕ) → p < length parents → IsNextUnder parents p 0 (slice_index first p)
  pub next_under : (k : ℕ) → 1 ≤ k → k < length parents → IsNextUnder parents (slice_index parents k) k (slice_index next k)
  pub none_next : slice_index next 0 ≡ 0
