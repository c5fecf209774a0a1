-- The order of lists of numbers, compared number by number.
use Rattle.std.proofs.Common.{◌≡◌, ◌≢◌, ◌⊎◌, ℕ, zero, suc, ◌<◌, List, [], ◌∷◌, ◌++◌, refl, sym, ap, subst, ◌∙◌, inl, inr, arith, true≢false, nat_cmp, is_lt, is_gt, Ordering, Less, Equal, Greater, lt-ltb, le-ltb, eq-eqb, ne_eqb, append-nil}
use Rattle.std.specs.Ordering.{ordering_then}
use Rattle.std.specs.Cmp.Lexicographic.{slice_cmp}
use Rattle.std.proofs.lemmas.Bool.{cases_eq, cond-true, cond-false}
use Rattle.std.proofs.lemmas.Cmp.{nat_list_cmp_total}
use Rattle.thread_view.specs.Arrays.{IsAtMost}

abbrev pub Before : List ℕ → List ℕ → Type 0
Before a b = slice_cmp nat_cmp a b ≡ Less

-- ---- numbers
pub number-less : (x y : ℕ) → x < y → nat_cmp x y ≡ Less
number-less x y lt = cond-true _ _ _ (lt-ltb x y lt)

pub number-same : (x y : ℕ) → x ≡ y → nat_cmp x y ≡ Equal
number-same x y e = cond-false _ _ _ (le-ltb x y (omega arith)) ∙ cond-true _ _ _ (eq-eqb x y e)

pub number-greater : (x y : ℕ) → y < x → nat_cmp x y ≡ Greater
number-greater x y lt = cond-false _ _ _ (le-ltb x y (omega arith)) ∙ cond-false _ _ _ (ne_eqb x y (λ e. omega arith))

pub data Compared (x y : ℕ) : Type 0 where
  less : x < y → Compared x y
  same : x ≡ y → Compared x y
  greater : y < x → Compared x y

pub compared : (x y : ℕ) → Compared x y
compared x y =
    elim (cases_eq x y) [
      | inl e ↦ same e
      | inr n ↦ go (lib_le x y n)
    ]
  where
    lib_le : (a b : ℕ) → a ≢ b → (a < b) ⊎ (b < a)
    lib_le zero zero n = absurd (n refl)
    lib_le zero (suc b) n = inl (omega arith)
    lib_le (suc a) zero n = inr (omega arith)
    lib_le (suc a) (suc b) n =
        elim (lib_le a b (λ e. n (ap suc e))) [
          | inl lt ↦ inl (omega arith)
          | inr lt ↦ inr (omega arith)
        ]

    go : (x < y) ⊎ (y < x) → Compared x y
    go (inl lt) = less lt
    go (inr lt) = greater lt

-- ---- lists
not-less : Greater ≡ Less → ⊥
not-less e = true≢false (ap is_gt e)

not-equal : Equal ≡ Less → ⊥
not-equal e = true≢false (sym (ap is_lt e))

pub before-lower : (x y : ℕ) (xs ys : List ℕ) → x < y → Before (x ∷ xs) (y ∷ ys)
before-lower x y xs ys lt = ap (λ (r : Ordering). ordering_then r (slice_cmp nat_cmp xs ys)) (number-less x y lt)

pub before-deeper : (x : ℕ) (xs ys : List ℕ) → Before xs ys → Before (x ∷ xs) (x ∷ ys)
before-deeper x xs ys b = ap (λ (r : Ordering). ordering_then r (slice_cmp nat_cmp xs ys)) (number-same x x refl) ∙ b

pub before-cases : (x y : ℕ) (xs ys : List ℕ) → Before (x ∷ xs) (y ∷ ys) → (x < y) ⊎ ((x ≡ y) × Before xs ys)
before-cases x y xs ys b = go (compared x y)
  where
    go : Compared x y → (x < y) ⊎ ((x ≡ y) × Before xs ys)
    go (less lt) = inl lt
    go (same e) = inr (e, sym (ap (λ (r : Ordering). ordering_then r (slice_cmp nat_cmp xs ys)) (number-same x y e)) ∙ b)
    go (greater lt) = absurd (not-less (sym (ap (λ (r : Ordering). ordering_then r (slice_cmp nat_cmp xs ys)) (number-greater x y lt)) ∙ b))

pub before-none : (xs : List ℕ) → Before xs [] → ⊥
before-none [] b = not-equal b
before-none (x ∷ xs) b = not-less b

pub before-itself : (xs : List ℕ) → Before xs xs → ⊥
before-itself [] b = not-equal b
before-itself (x ∷ xs) b =
    elim (before-cases x x xs xs b) [
      | inl lt ↦ absurd (omega arith)
      | inr deeper ↦ before-itself xs deeper.1
    ]

pub before-then : (xs ys zs : List ℕ) → Before xs ys → Before ys zs → Before xs zs
before-then xs ys zs = nat_list_cmp_total.trans xs ys zs

pub before-behind : (a xs ys : List ℕ) → Before xs ys → Before (a ++ xs) (a ++ ys)
before-behind [] xs ys b = b
before-behind (x ∷ a) xs ys b = before-deeper x (a ++ xs) (a ++ ys) (before-behind a xs ys b)

pub before-longer : (a : List ℕ) (y : ℕ) (ys : List ℕ) → Before a (a ++ y ∷ ys)
before-longer a y ys = subst (λ (l : List ℕ). Before l (a ++ y ∷ ys)) (append-nil a) (before-behind a [] (y ∷ ys) refl)

pub data Ordered (xs ys : List ℕ) : Type 0 where
  first : Before xs ys → Ordered xs ys
  equal : xs ≡ ys → Ordered xs ys
  second : Before ys xs → Ordered xs ys

pub ordered : (xs ys : List ℕ) → Ordered xs ys
ordered [] [] = equal refl
ordered [] (y ∷ ys) = first refl
ordered (x ∷ xs) [] = second refl
ordered (x ∷ xs) (y ∷ ys) = go (compared x y) (ordered xs ys)
  where
    go : Compared x y → Ordered xs ys → Ordered (x ∷ xs) (y ∷ ys)
    go (less lt) rest = first (before-lower x y xs ys lt)
    go (greater lt) rest = second (before-lower y x ys xs lt)
    go (same e) (first b) = first (subst (λ (z : ℕ). Before (x ∷ xs) (z ∷ ys)) e (before-deeper x xs ys b))
    go (same e) (equal s) = equal (λ i. e i ∷ s i)
    go (same e) (second b) = second (subst (λ (z : ℕ). Before (z ∷ ys) (x ∷ xs)) e (before-deeper x ys xs b))

-- what lies between two lists with the same front has that front
pub between : (a u v m : List ℕ) → Before (a ++ u) m → Before m (a ++ v) → (w : List ℕ) × (m ≡ a ++ w) × Before u w × Before w v
between [] u v m low high = (m, refl, low, high)
between (x ∷ a) u v [] low high = absurd (before-none (x ∷ (a ++ u)) low)
between (x ∷ a) u v (y ∷ m) low high = go (before-cases x y (a ++ u) m low) (before-cases y x m (a ++ v) high) (between a u v m)
  where
    Between : Type 0
    Between = (w : List ℕ) × (y ∷ m ≡ x ∷ (a ++ w)) × Before u w × Before w v

    go : (x < y) ⊎ ((x ≡ y) × Before (a ++ u) m) → (y < x) ⊎ ((y ≡ x) × Before m (a ++ v))
        → (Before (a ++ u) m → Before m (a ++ v) → (w : List ℕ) × (m ≡ a ++ w) × Before u w × Before w v) → Between
    go (inl lt) (inl gt) rec = absurd (omega arith)
    go (inl lt) (inr e) rec = absurd (let f = e.0 in omega arith)
    go (inr e) (inl lt) rec = absurd (let f = e.0 in omega arith)
    go (inr e) (inr f) rec = let r = rec e.1 f.1 in (r.0, (λ i. f.0 i ∷ r.1 i), r.2, r.3)

pub not-above : (a b : List ℕ) → IsAtMost a b → Before b a → ⊥
not-above a b (inl less_than) b_a = before-itself a (before-then a b a less_than b_a)
not-above a b (inr e) b_a = before-itself a (subst (λ (l : List ℕ). Before l a) (sym e) b_a)
