-- Facts on lists of numbers that differ, and on the first place where a test passes.
use Rattle.std.proofs.Common.{◌≡◌, ◌≢◌, ℕ, zero, suc, ◌<◌, ◌&&◌, ◌||◌, Bool, true, false, inl, inr, List, [], ◌∷◌, length, get_or, Some, None, refl, sym, ap, ◌∙◌, arith, subst, take, drop, ◌++◌, append-nil}
use Rattle.std.specs.List.{list_any, find, filter}
use Rattle.std.proofs.lemmas.Bool.{cond-true, cond-false, cases_Bool, and_left, and_right, and_from, or_cases, or_left, or_right, false≢true}
use Rattle.std.proofs.lemmas.List.{take_all, drop_all}
use Rattle.std.proofs.lemmas.List.Folds.{list_any_at, list_any_none}
use Rattle.std.proofs.lemmas.List.Elements.{All-from_get_or}

-- the first element that passes
pub find_first : {X : Type 0} (p : X → Bool) (xs : List X) (i : ℕ) (d : X) → i < length xs → ((k : ℕ) → k < i → p (get_or xs k d) ≡ false) → p (get_or xs i d) ≡ true → find p xs ≡ Some (get_or xs i d)
find_first p [] i d lt before here = absurd (omega arith)
find_first p (x ∷ xs) zero d lt before here = cond-true _ _ _ here
find_first p (x ∷ xs) (suc i) d lt before here =
    cond-false _ _ _ (before 0 (omega arith)) ∙ find_first p xs i d (omega arith) (λ k h. before (suc k) (omega arith)) here

-- no element passes
pub find_none : {X : Type 0} (p : X → Bool) (xs : List X) → ((k : ℕ) (d : X) → k < length xs → p (get_or xs k d) ≡ false) → find p xs ≡ None
find_none p [] none = refl
find_none p (x ∷ xs) none = cond-false _ _ _ (none 0 x (omega arith)) ∙ find_none p xs (λ k d lt. none (suc k) d (omega arith))

-- what is found passes
pub find_passes : {X : Type 0} (p : X → Bool) (xs : List X) (x : X) → find p xs ≡ Some x → p x ≡ true
find_passes p [] x found = absurd (cc)
find_passes p (y ∷ ys) x found =
    elim (cases_Bool (p y)) [
      | inl pass ↦ let same : Some y ≡ Some x = sym (cond-true (p y) (Some y) (find p ys) pass) ∙ found in let e : y ≡ x = cc in sym (ap p e) ∙ pass
      | inr fail ↦ find_passes p ys x (sym (cond-false (p y) (Some y) (find p ys) fail) ∙ found)
    ]

pub and_true : (x y : Bool) → y ≡ true → (x && y) ≡ x
and_true true y pass = pass
and_true false y pass = refl

-- one test after another
pub filter-filter : {X : Type 0} (p q : X → Bool) (xs : List X) → filter (λ x. p x && q x) xs ≡ filter p (filter q xs)
filter-filter p q [] = refl
filter-filter p q (x ∷ xs) =
    elim (cases_Bool (q x)) [
      | inr fail ↦ cond-false _ _ _ (and_right (p x) (q x) fail) ∙ filter-filter p q xs ∙ ap (filter p) (sym (cond-false (q x) (x ∷ filter q xs) (filter q xs) fail))
      | inl pass ↦ elim (cases_Bool (p x)) [
        | inl here ↦ cond-true _ _ _ (and_from (p x) (q x) here pass) ∙ ap (λ ys. x ∷ ys) (filter-filter p q xs)
            ∙ sym (cond-true (p x) (x ∷ filter p (filter q xs)) (filter p (filter q xs)) here) ∙ ap (filter p) (sym (cond-true (q x) (x ∷ filter q xs) (filter q xs) pass))
        | inr fail ↦ cond-false _ _ _ (and_left (p x) (q x) fail) ∙ filter-filter p q xs
            ∙ sym (cond-false (p x) (x ∷ filter p (filter q xs)) (filter p (filter q xs)) fail) ∙ ap (filter p) (sym (cond-true (q x) (x ∷ filter q xs) (filter q xs) pass))
      ]
    ]

pub list_any-filter : {X : Type 0} (p q : X → Bool) (xs : List X) → list_any (λ x. p x && q x) xs ≡ list_any p (filter q xs)
list_any-filter p q [] = refl
list_any-filter p q (x ∷ xs) =
    elim (cases_Bool (q x)) [
      | inr fail ↦ ap (λ (t : Bool). t || list_any (λ y. p y && q y) xs) (and_right (p x) (q x) fail) ∙ list_any-filter p q xs
          ∙ ap (list_any p) (sym (cond-false (q x) (x ∷ filter q xs) (filter q xs) fail))
      | inl pass ↦ ap (λ (t : Bool). t || list_any (λ y. p y && q y) xs) (and_true (p x) (q x) pass)
          ∙ ap (λ (t : Bool). p x || t) (list_any-filter p q xs) ∙ ap (list_any p) (sym (cond-true (q x) (x ∷ filter q xs) (filter q xs) pass))
    ]

-- fail element passes
filter_nothing : {X : Type 0} (p : X → Bool) (xs : List X) (d : X) → ((k : ℕ) → k < length xs → p (get_or xs k d) ≡ false) → filter p xs ≡ []
filter_nothing p [] d none = refl
filter_nothing p (x ∷ xs) d none = cond-false _ _ _ (none 0 (omega arith)) ∙ filter_nothing p xs d (λ k h. none (suc k) (omega arith))

-- one element passes alone
pub filter_only : {X : Type 0} (p : X → Bool) (xs : List X) (i : ℕ) (d : X) → i < length xs → p (get_or xs i d) ≡ true
    → ((k : ℕ) → k < length xs → k ≢ i → p (get_or xs k d) ≡ false) → filter p xs ≡ get_or xs i d ∷ []
filter_only p [] i d lt here others = absurd (omega arith)
filter_only p (x ∷ xs) zero d lt here others = cond-true _ _ _ here ∙ ap (λ ys. x ∷ ys) (filter_nothing p xs d (λ k h. others (suc k) (omega arith) (λ e. omega arith)))
filter_only p (x ∷ xs) (suc i) d lt here others =
    cond-false _ _ _ (others 0 (omega arith) (λ e. omega arith)) ∙ filter_only p xs i d (omega arith) here (λ k h ne. others (suc k) (omega arith) (λ e. ne (omega arith)))

-- a filter keeps something where an element passes
pub filter_some : {X : Type 0} (p : X → Bool) (xs : List X) → list_any p xs ≡ true → 0 < length (filter p xs)
filter_some {X = X} p [] any = absurd (false≢true any)
filter_some {X = X} p (x ∷ xs) any =
    let P : List X → Type 0 = λ ys. 0 < length ys in
    elim (cases_Bool (p x)) [
      | inl pass ↦ subst P (sym (cond-true (p x) (x ∷ filter p xs) (filter p xs) pass)) (omega arith)
      | inr fail ↦ subst P (sym (cond-false (p x) (x ∷ filter p xs) (filter p xs) fail)) (filter_some p xs (sym (ap (λ (t : Bool). t || list_any p xs) fail) ∙ any))
    ]

-- the answer of a search, by what it found
pub any_found : {X : Type 0} (p : X → Bool) (xs : List X) (d : X) (found : Bool)
    → (found ≡ true → (k : ℕ) × (k < length xs) × (p (get_or xs k d) ≡ true)) → (found ≡ false → (k : ℕ) → k < length xs → p (get_or xs k d) ≡ false) → found ≡ list_any p xs
any_found p xs d true pass fail = let h = pass refl in sym (list_any_at p xs h.0 d h.1 h.2)
any_found p xs d false pass fail = sym (list_any_none p xs (All-from_get_or (λ x. p x ≡ false) xs d (fail refl)))

pub or_nothing : (a : Bool) → a ≡ (a || false)
or_nothing true = refl
or_nothing false = refl

-- one of two tests
pub any_left : {X : Type 0} (p q : X → Bool) (xs : List X) → list_any p xs ≡ true → list_any (λ x. p x || q x) xs ≡ true
any_left p q [] any = any
any_left p q (x ∷ xs) any =
    elim (or_cases (p x) (list_any p xs) any) [
      | inl here ↦ or_left _ _ (or_left (p x) (q x) here)
      | inr later ↦ or_right (p x || q x) _ (any_left p q xs later)
    ]

-- what is lent as a slice and given back
pub given_back : {X : Type 0} (n : ℕ) (new old : List X) → length new ≡ length old → n ≡ length old → take n (new ++ drop (length new) old) ≡ new
given_back n new old long whole =
    ap (take n) (ap (λ rest. new ++ rest) (drop_all (length new) old (omega arith)) ∙ append-nil new) ∙ take_all n new (omega arith)
