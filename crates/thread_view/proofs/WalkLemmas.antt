-- The walk through threads.
use Rattle.std.proofs.Common.{◌≡◌, ◌≢◌, ◌⊎◌, ℕ, suc, ◌+◌, ◌-◌, ◌<◌, ◌≤◌, List, [], ◌∷◌, ◌++◌, length, map, slice_index, refl, sym, ap, subst, ◌∙◌, inl, inr, arith, true, false, eqb, append-nil, append_assoc, length-append, IsPermutation, nat_cmp, Less, ne_eqb}
use Rattle.std.specs.Cmp.Lexicographic.{slice_cmp}
use Rattle.std.specs.List.{range_with_len, AllByRecursion, IsDistinct}
use Rattle.std.specs.List.Sorted.{IsStrictlySortedBy}
use Rattle.std.proofs.lemmas.Bool.{cases_eq}
use Rattle.std.proofs.lemmas.List.{get_or_append_left, get_or_push}
use Rattle.std.proofs.lemmas.Map.Steps.{length-le_from_distinct_below}
use Rattle.thread_view.specs.Arrays.{ArePathsIn, IsAtMost, IsFollowing, IsIn, IsNextUnder, IsParentArray}
use Rattle.thread_view.proofs.OrderLemmas.{Before, before-behind, before-cases, before-itself, before-longer, before-lower, before-none, before-then, between, Compared, compared, less, same, greater, Ordered, ordered, first, equal, second, not-above}
use Rattle.thread_view.proofs.ForestLemmas.{child_at, IsChildAt, long, one_path}
use Rattle.thread_view.proofs.PermutationLemmas.{at-has, each_once, has, has-at}

-- the path x is a front of the path k
abbrev pub IsOnPath : List ℕ → List ℕ → Type 0
IsOnPath k x = (t : List ℕ) × (k ≡ x ++ t)

-- each message with x on its path comes before k, or is k
abbrev pub IsWalked : List ℕ → (ℕ → List ℕ) → ℕ → ℕ → Type 0
IsWalked parents path k x = (m : ℕ) → IsIn parents m → IsOnPath (path m) (path x) → IsAtMost (path m) (path k)

module _ (parents : List ℕ) (array : IsParentArray parents) (path : ℕ → List ℕ) (paths : ArePathsIn parents path) where
  child : (m : ℕ) (front : List ℕ) (y : ℕ) (rest : List ℕ) → IsIn parents m → path m ≡ front ++ y ∷ rest → IsChildAt parents array path paths front y
  child m front y rest is e = child_at parents array path paths m front y rest is.1 e

  -- a message y with the path of x and then y has parent x
  parent_is : (x y : ℕ) → x < length parents → IsChildAt parents array path paths (path x) y → slice_index parents y ≡ x
  parent_is x y high at = one_path parents array path paths (slice_index parents y) x (array.within y at.here.1) high at.parent

  -- ---- a message under which there is none
  pub walked-leaf : (k : ℕ) → k < length parents → IsNextUnder parents k 0 0 → IsWalked parents path k k
  walked-leaf k high none m is on = go on.0 on.1 none
    where
      go : (t : List ℕ) → path m ≡ path k ++ t → IsNextUnder parents k 0 0 → IsAtMost (path m) (path k)
      go [] e n = inr (e ∙ append-nil (path k))
      go (y ∷ rest) e (inl n) = let at = child m (path k) y rest is e in absurd (n.1 y (omega (arith, at.here.0)) at.here.1 (parent_is k y high at))
      go (y ∷ rest) e (inr n) = absurd (omega (arith, n.0))

  -- ---- the last one under its parent
  abbrev pub on-parent : (k x : ℕ) → IsIn parents x → IsOnPath (path k) (path x) → IsOnPath (path k) (path (slice_index parents x))
  on-parent k x is on = (
    x ∷ on.0,
    on.1 ∙ ap (λ (l : List ℕ). l ++ on.0) (paths.each x is.0 is.1) ∙ append_assoc (path (slice_index parents x)) (x ∷ []) on.0,
  )

  pub walked-last : (k x : ℕ) → IsIn parents x → IsNextUnder parents (slice_index parents x) x 0 → IsOnPath (path k) (path x)
      → IsWalked parents path k x → IsWalked parents path k (slice_index parents x)
  walked-last k x is none on walked m in_m under = go under.0 under.1 none
    where
      front : List ℕ
      front = path (slice_index parents x)

      path_k : path k ≡ path (slice_index parents x) ++ x ∷ on.0
      path_k = (on-parent k x is on).1

      go : (t : List ℕ) → path m ≡ path (slice_index parents x) ++ t → IsNextUnder parents (slice_index parents x) x 0 → IsAtMost (path m) (path k)
      go t e (inr n) = absurd (omega (arith, n.0))
      go [] e (inl n) =
          inl (subst (λ (l : List ℕ). Before (path m) l) (sym path_k)
          (subst (λ (l : List ℕ). Before l (path (slice_index parents x) ++ x ∷ on.0)) (sym (e ∙ append-nil (path (slice_index parents x))))
          (before-longer (path (slice_index parents x)) x on.0)))
      go (y ∷ rest) e (inl n) = turn (compared y x)
        where
          turn : Compared y x → IsAtMost (path m) (path k)
          turn (less lt) =
              inl (subst (λ (l : List ℕ). Before (path m) l) (sym path_k)
              (subst (λ (l : List ℕ). Before l (path (slice_index parents x) ++ x ∷ on.0)) (sym e)
              (before-behind (path (slice_index parents x)) (y ∷ rest) (x ∷ on.0) (before-lower y x rest on.0 lt))))
          turn (same s) =
              walked m in_m (
                rest,
                e
                    ∙ ap (λ (z : ℕ). path (slice_index parents x) ++ z ∷ rest) s
                    ∙ sym (append_assoc (path (slice_index parents x)) (x ∷ []) rest)
                    ∙ ap (λ (l : List ℕ). l ++ rest) (sym (paths.each x is.0 is.1)),
              )
          turn (greater lt) =
              let at = child m (path (slice_index parents x)) y rest in_m e in
              absurd (n.1 y lt at.here.1 (parent_is (slice_index parents x) y (array.within x is.1) at))

  -- ---- nothing is left
  pub following-none : (k : ℕ) → IsWalked parents path k 0 → IsFollowing parents path k 0
  following-none k walked = inl (refl, λ m is. walked m is (path m, ap (λ (l : List ℕ). l ++ path m) (sym paths.none)))

  -- what lies between the paths of k and s, where both begin with a front
  split : (k s m : ℕ) → (Before (path k) (path m) → Before (path m) (path s) → ⊥) → IsAtMost (path m) (path k) ⊎ IsAtMost (path s) (path m)
  split k s m nothing = go (ordered (path m) (path k)) (ordered (path s) (path m))
    where
      go : Ordered (path m) (path k) → Ordered (path s) (path m) → IsAtMost (path m) (path k) ⊎ IsAtMost (path s) (path m)
      go (first b) o = inl (inl b)
      go (equal e) o = inl (inr e)
      go (second b) (first o) = inr (inl o)
      go (second b) (equal e) = inr (inr e)
      go (second b) (second o) = absurd (nothing b o)

  -- ---- the first one under k
  pub following-child : (k c : ℕ) → k < length parents → c ≢ 0 → IsNextUnder parents k 0 c → IsFollowing parents path k c
  following-child k c high some (inl n) = absurd (some n.0)
  following-child k c high some (inr n) = inr ((n.0, n.1), after, λ m is. split k c m (nothing m is))
    where
      path_c : path c ≡ path k ++ c ∷ []
      path_c = paths.each c n.0 n.1 ∙ ap (λ (p : ℕ). path p ++ c ∷ []) n.2

      after : Before (path k) (path c)
      after = subst (Before (path k)) (sym path_c) (before-longer (path k) c [])

      nothing : (m : ℕ) → IsIn parents m → Before (path k) (path m) → Before (path m) (path c) → ⊥
      nothing m is low up =
          let w = between (path k) [] (c ∷ []) (path m) (subst (λ (l : List ℕ). Before l (path m)) (sym (append-nil (path k))) low) (subst (Before (path m)) path_c up) in
          go w.0 w.1 w.2 w.3
        where
          go : (w : List ℕ) → path m ≡ path k ++ w → Before [] w → Before w (c ∷ []) → ⊥
          go [] e l u = before-itself [] l
          go (y ∷ rest) e l u =
              elim (before-cases y c rest [] u) [
                | inl lt ↦ let at = child m (path k) y rest is e in n.3 y (omega (arith, at.here.0)) lt (parent_is k y high at)
                | inr d ↦ before-none rest d.1
              ]

  -- ---- the next one with the same parent
  pub following-next : (k x s : ℕ) → IsIn parents x → s ≢ 0 → IsNextUnder parents (slice_index parents x) x s → IsOnPath (path k) (path x) → IsWalked parents path k x → IsFollowing parents path k s
  following-next k x s is some (inl n) on walked = absurd (some n.0)
  following-next k x s is some (inr n) on walked = inr ((omega (arith, n.0), n.1), after, λ m in_m. split k s m (nothing m in_m))
    where
      path_k : path k ≡ path (slice_index parents x) ++ x ∷ on.0
      path_k = (on-parent k x is on).1

      path_s : path s ≡ path (slice_index parents x) ++ s ∷ []
      path_s = paths.each s (omega (arith, n.0)) n.1 ∙ ap (λ (p : ℕ). path p ++ s ∷ []) n.2

      after : Before (path k) (path s)
      after =
          subst (λ (l : List ℕ). Before l (path s)) (sym path_k)
          (subst (Before (path (slice_index parents x) ++ x ∷ on.0)) (sym path_s)
          (before-behind (path (slice_index parents x)) (x ∷ on.0) (s ∷ []) (before-lower x s on.0 [] n.0)))

      nothing : (m : ℕ) → IsIn parents m → Before (path k) (path m) → Before (path m) (path s) → ⊥
      nothing m in_m low up =
          let w = between (path (slice_index parents x)) (x ∷ on.0) (s ∷ []) (path m) (subst (λ (l : List ℕ). Before l (path m)) path_k low) (subst (Before (path m)) path_s up) in
          go w.0 w.1 w.2 w.3
        where
          under : (y : ℕ) (rest : List ℕ) → path m ≡ path (slice_index parents x) ++ y ∷ rest → x < y → y < s → ⊥
          under y rest e lt u = let at = child m (path (slice_index parents x)) y rest in_m e in n.3 y lt u (parent_is (slice_index parents x) y (array.within x is.1) at)

          own : (y : ℕ) (rest : List ℕ) → path m ≡ path (slice_index parents x) ++ y ∷ rest → x ≡ y → ⊥
          own y rest e s_same =
              not-above (path m) (path k)
              (walked m in_m (
                rest,
                e
                    ∙ ap (λ (z : ℕ). path (slice_index parents x) ++ z ∷ rest) (sym s_same)
                    ∙ sym (append_assoc (path (slice_index parents x)) (x ∷ []) rest)
                    ∙ ap (λ (l : List ℕ). l ++ rest) (sym (paths.each x is.0 is.1)),
              ))
              low

          go : (w : List ℕ) → path m ≡ path (slice_index parents x) ++ w → Before (x ∷ on.0) w → Before w (s ∷ []) → ⊥
          go [] e l u = before-none (x ∷ on.0) l
          go (y ∷ rest) e l u =
              elim (before-cases y s rest [] u) [
                | inr d ↦ before-none rest d.1
                | inl lt ↦ elim (before-cases x y on.0 rest l) [
                  | inl gt ↦ under y rest e gt lt
                  | inr d ↦ own y rest e d.0
                ]
              ]

  -- ---- how many messages a path has
  pub level-child : (k c : ℕ) → c ≢ 0 → IsNextUnder parents k 0 c → length (path c) ≡ length (path k) + 1
  level-child k c some (inl n) = absurd (some n.0)
  level-child k c some (inr n) = long parents array path paths c (n.0, n.1) ∙ ap (λ (p : ℕ). length (path p) + 1) n.2

  pub level-next : (x s : ℕ) → IsIn parents x → s ≢ 0 → IsNextUnder parents (slice_index parents x) x s → length (path s) ≡ length (path x)
  level-next x s is some (inl n) = absurd (some n.0)
  level-next x s is some (inr n) =
      long parents array path paths s (omega (arith, n.0), n.1)
      ∙ ap (λ (p : ℕ). length (path p) + 1) n.2
      ∙ sym (long parents array path paths x is)

-- ---- the messages so far, and the one that is next
pub record IsListed (parents : List ℕ) (path : ℕ → List ℕ) (order : List ℕ) (k : ℕ) : Type 0 where
  pub within : (i : ℕ) → i < length order → IsIn parents (slice_index order i)
  pub ascend : IsStrictlySortedBy (slice_cmp nat_cmp) (map path order)
  pub ahead : k ≢ 0 → (i : ℕ) → i < length order → Before (path (slice_index order i)) (path k)
  pub rest : (m : ℕ) → IsIn parents m → (has order m ≡ true) ⊎ ((k ≢ 0) × IsAtMost (path k) (path m))

module _ (path : ℕ → List ℕ) where
  all-more : (P : List ℕ → Type 0) (xs : List ℕ) (k : ℕ) → AllByRecursion P (map path xs) → P (path k) → AllByRecursion P (map path (xs ++ k ∷ []))
  all-more P [] k all one = (one, tt)
  all-more P (x ∷ xs) k all one = (all.0, all-more P xs k all.1 one)

  sorted-more : (order : List ℕ) (k : ℕ) → IsStrictlySortedBy (slice_cmp nat_cmp) (map path order)
      → ((i : ℕ) → i < length order → Before (path (slice_index order i)) (path k)) → IsStrictlySortedBy (slice_cmp nat_cmp) (map path (order ++ k ∷ []))
  unfolding IsStrictlySortedBy
  sorted-more [] k sorted ahead = (tt, tt)
  sorted-more (x ∷ xs) k sorted ahead = (
    all-more (λ y. slice_cmp nat_cmp (path x) y ≡ Less) xs k sorted.0 (ahead 0 (omega arith)),
    sorted-more xs k sorted.1 (λ i lt. ahead (suc i) (omega arith)),
  )

  apart-from : (x : ℕ) (xs : List ℕ) → AllByRecursion (λ y. slice_cmp nat_cmp (path x) y ≡ Less) (map path xs) → AllByRecursion (λ y. eqb x y ≡ false) xs
  apart-from x [] all = tt
  apart-from x (y ∷ ys) all = (
    ne_eqb x y (λ e. before-itself (path x) (subst (λ (z : ℕ). Before (path x) (path z)) (sym e) all.0)),
    apart-from x ys all.1,
  )

  pub apart-sorted : (order : List ℕ) → IsStrictlySortedBy (slice_cmp nat_cmp) (map path order) → IsDistinct eqb order
  unfolding IsStrictlySortedBy IsDistinct
  apart-sorted [] sorted = tt
  apart-sorted (x ∷ xs) sorted = (apart-from x xs sorted.0, apart-sorted xs sorted.1)

module _ (parents : List ℕ) (array : IsParentArray parents) (path : ℕ → List ℕ) (paths : ArePathsIn parents path) where
  not_none : (m : ℕ) → IsIn parents m → IsAtMost (path m) (path 0) → ⊥
  not_none m is (inl b) = before-none (path m) (subst (Before (path m)) paths.none b)
  not_none m is (inr e) = let l = long parents array path paths m is in let z = ap length (e ∙ paths.none) in omega arith

  -- at first there is none, and the first one is next
  pub listed-start : (k : ℕ) → IsFollowing parents path 0 k → IsListed parents path [] k
  unfolding IsStrictlySortedBy
  listed-start k next = record { within = λ i lt. absurd (omega arith); ascend = tt; ahead = λ some i lt. absurd (omega arith); rest = λ m is. go m is next }
    where
      go : (m : ℕ) → IsIn parents m → IsFollowing parents path 0 k → (has [] m ≡ true) ⊎ ((k ≢ 0) × IsAtMost (path k) (path m))
      go m is (inl n) = absurd (not_none m is (n.1 m is))
      go m is (inr n) =
          elim (n.2 m is) [
            | inl at ↦ absurd (not_none m is at)
            | inr at ↦ inr ((λ e. let low = n.0.0 in omega arith), at)
          ]

  pub first-following : (k : ℕ) → 1 ≤ length parents → IsNextUnder parents 0 0 k → IsFollowing parents path 0 k
  first-following k some under =
      elim (cases_eq k 0) [
        | inl e ↦ subst (IsFollowing parents path 0) (sym e)
            (following-none parents array path paths 0 (walked-leaf parents array path paths 0 (omega arith) (subst (IsNextUnder parents 0 0) e under)))
        | inr n ↦ following-child parents array path paths 0 k (omega arith) n under
      ]

  module _ (order : List ℕ) (k : ℕ) (is_k : IsIn parents k) (old : IsListed parents path order k) where
    some_k : k ≢ 0
    some_k e = let low = is_k.0 in omega arith

    front : (i : ℕ) → i < length order → slice_index (order ++ k ∷ []) i ≡ slice_index order i
    front i lt = get_or_append_left order (k ∷ []) 0 i lt

    last : slice_index (order ++ k ∷ []) (length order) ≡ k
    last = get_or_push order k 0 (length order) refl

    each : (P : ℕ → Type 0) → ((i : ℕ) → i < length order → P (slice_index order i)) → P k → (i : ℕ) → i < length (order ++ k ∷ []) → P (slice_index (order ++ k ∷ []) i)
    each P all one i lt =
        elim (cases_eq i (length order)) [
          | inl e ↦ subst P (sym (ap (slice_index (order ++ k ∷ [])) e ∙ last)) one
          | inr n ↦ let here : i < length order = omega (arith, length-append order (k ∷ [])) in subst P (sym (front i here)) (all i here)
        ]

    sorted : IsStrictlySortedBy (slice_cmp nat_cmp) (map path (order ++ k ∷ []))
    sorted = sorted-more path order k old.ascend (old.ahead some_k)

    -- the messages so far are fewer than all
    pub listed-short : length order + 1 ≤ length parents
    listed-short =
        let in_range = each (λ m. IsIn parents m) old.within is_k in
        let short = length-le_from_distinct_below (order ++ k ∷ []) (length parents) (apart-sorted path (order ++ k ∷ []) sorted)
        (λ q on. let at = at-has (order ++ k ∷ []) q on in let w = (in_range at.0 at.1).1 in let e = at.2 in omega arith) in
        omega (arith, length-append order (k ∷ []))

    has-before : (m : ℕ) → has order m ≡ true → has (order ++ k ∷ []) m ≡ true
    has-before m on = let at = at-has order m on in has-at (order ++ k ∷ []) at.0 m (omega (arith, length-append order (k ∷ []), at.1)) (front at.0 at.1 ∙ at.2)

    has-now : (m : ℕ) → m ≡ k → has (order ++ k ∷ []) m ≡ true
    has-now m e = has-at (order ++ k ∷ []) (length order) m (omega (arith, length-append order (k ∷ []))) (last ∙ sym e)

    same_one : (m : ℕ) → IsIn parents m → IsAtMost (path k) (path m) → IsAtMost (path m) (path k) → m ≡ k
    same_one m is (inl b) other = absurd (not-above (path m) (path k) other b)
    same_one m is (inr e) other = one_path parents array path paths m k is.1 is_k.1 (sym e)

    pub listed-more : (s : ℕ) → IsFollowing parents path k s → IsListed parents path (order ++ k ∷ []) s
    listed-more s next = record {
      within = each (λ m. IsIn parents m) old.within is_k;
      ascend = sorted;
      ahead = λ some. each (λ m. Before (path m) (path s)) (λ i lt. before-then (path (slice_index order i)) (path k) (path s) (old.ahead some_k i lt) (after some next)) (after some next);
      rest = λ m is. go m is (old.rest m is) next;
    }
      where
        after : s ≢ 0 → IsFollowing parents path k s → Before (path k) (path s)
        after some (inl n) = absurd (some n.0)
        after some (inr n) = n.1

        go : (m : ℕ) → IsIn parents m → (has order m ≡ true) ⊎ ((k ≢ 0) × IsAtMost (path k) (path m)) → IsFollowing parents path k s
            → (has (order ++ k ∷ []) m ≡ true) ⊎ ((s ≢ 0) × IsAtMost (path s) (path m))
        go m is (inl on) n = inl (has-before m on)
        go m is (inr left) (inl n) = inl (has-now m (same_one m is left.1 (n.1 m is)))
        go m is (inr left) (inr n) =
            elim (n.2 m is) [
              | inl at ↦ inl (has-now m (same_one m is left.1 at))
              | inr at ↦ inr ((λ e. let low = n.0.0 in omega arith), at)
            ]

  -- at the end each message is there once
  pub listed-all : (order : List ℕ) → IsListed parents path order 0 → IsPermutation (range_with_len 1 (length parents - 1)) order
  listed-all order all =
      each_once (length parents - 1) order (apart-sorted path order all.ascend)
      (λ i lt. let w = all.within i lt in (w.0, omega (arith, w.1)))
      (λ q low high. go q (all.rest q (low, omega arith)))
    where
      go : (q : ℕ) → (has order q ≡ true) ⊎ ((λ (z : ℕ). z ≢ 0) 0 × IsAtMost (path 0) (path q)) → has order q ≡ true
      go q (inl on) = on
      go q (inr n) = absurd (n.0 refl)
