-- The places of numbers in an order.
use Rattle.std.proofs.Common.{◌≡◌, ◌≢◌, ℕ, ◌+◌, ◌-◌, ◌<◌, ◌≤◌, true, false, ◌==◌, nat_eq, cond, nat_lt, inl, inr, Bool, set, List, length, get_or, Option, Some, None, sym, ap, ◌∙◌, arith, subst, position}
use Rattle.std.specs.Option.{IfSome}
use Rattle.std.specs.List.{position_or_len, IsDistinct, range_with_len, slice_get, All}
use Rattle.std.specs.List.Sorted.{IsPermutation}
use Rattle.std.proofs.lemmas.Bool.{cond-true, cond-false, lt-ltb, le-ltb, eq-eqb, ne_eqb, cases_eq, cases_lt, false≢true}
use Rattle.std.proofs.lemmas.Option.{slice_get_past, slice_get-get_or}
use Rattle.std.proofs.lemmas.Grind.{get_or_default_zero, get_or-set_at}
use Rattle.std.proofs.lemmas.List.{get_or-set_other}
use Rattle.std.proofs.lemmas.List.Sums.{position_or_len_is}
use Rattle.std.proofs.lemmas.List.Quantifiers.{position-Some}
use Rattle.std.proofs.lemmas.List.Sorted.{length_permutation, Contains-permutation, All-permutation}
use Rattle.std.proofs.lemmas.List.Elements.{All-from_get_or, All-get_or}
use Rattle.std.proofs.lemmas.List.FromFn.{length-range_with_len, get_or-range_with_len}
use Rattle.std.proofs.lemmas.Map.Keys.{IsDistinct-from_apart, IsDistinct-IsPermutation, apart_from_distinct}
use Rattle.message_state.specs.Orders.{place_in, listed_place}

-- the first place where a test passes
pub position_found : {X : Type 0} (p : X → Bool) (xs : List X) (i : ℕ) (d : X) → i < length xs → ((k : ℕ) → k < i → p (get_or xs k d) ≡ false) → p (get_or xs i d) ≡ true → position p xs ≡ Some i
position_found p xs i d lt before here =
    let at : position_or_len p xs ≡ i = position_or_len_is p xs i d (omega arith) before (λ _. here) in
    ap (λ (n : ℕ). cond (nat_lt n (length xs)) (Some n) None) at ∙ cond-true _ _ _ (lt-ltb i (length xs) lt)

-- no place where a test passes
pub position_missed : {X : Type 0} (p : X → Bool) (xs : List X) (d : X) → ((k : ℕ) → k < length xs → p (get_or xs k d) ≡ false) → position p xs ≡ None
position_missed p xs d none =
    let at : position_or_len p xs ≡ length xs = position_or_len_is p xs (length xs) d (omega arith) none (λ lt. absurd (omega arith)) in
    ap (λ (n : ℕ). cond (nat_lt n (length xs)) (Some n) None) at ∙ cond-false _ _ _ (le-ltb (length xs) (length xs) (omega arith))

eqb_flips : (a b : ℕ) → nat_eq a b ≡ nat_eq b a
eqb_flips a b =
    elim (cases_eq a b) [
      | inl e ↦ eq-eqb a b e ∙ sym (eq-eqb b a (sym e))
      | inr n ↦ ne_eqb a b n ∙ sym (ne_eqb b a (λ e. n (sym e)))
    ]

-- two places of a list in which each number from 1 on stands once
pub apart_places : (n : ℕ) (xs : List ℕ) → IsPermutation (range_with_len 1 n) xs → (i j : ℕ) → i < j → j < length xs → get_or xs i 0 ≢ get_or xs j 0
apart_places n xs all i j lt within e =
    let range : IsDistinct nat_eq (range_with_len 1 n) = IsDistinct-from_apart nat_eq (range_with_len 1 n)
    (λ a b d below high. ne_eqb _ _ (λ same. let last : b < n = omega (arith, length-range_with_len 1 n) in let one =
    get_or-range_with_len 1 n a d (omega arith) in let two = get_or-range_with_len 1 n b d last in omega arith)) in
    let distinct = IsDistinct-IsPermutation nat_eq eqb_flips (range_with_len 1 n) xs all range in
    false≢true (sym (apart_from_distinct nat_eq xs i j 0 distinct lt within) ∙ eq-eqb _ _ e)

-- ---- an order in which each number from 1 on stands once
pub order_length : (n : ℕ) (xs : List ℕ) → IsPermutation (range_with_len 1 n) xs → length xs ≡ n
order_length n xs all = length_permutation _ _ all ∙ length-range_with_len 1 n

pub order_once : (n : ℕ) (xs : List ℕ) → IsPermutation (range_with_len 1 n) xs → IsPermutation (range_with_len 1 (length xs)) xs
order_once n xs all = let P : ℕ → Type 0 = λ m. IsPermutation (range_with_len 1 m) xs in subst P (sym (order_length n xs all)) all

-- what stands there is one of these numbers
pub number_at : (n : ℕ) (xs : List ℕ) → IsPermutation (range_with_len 1 n) xs → (p : ℕ) → p < length xs → (1 ≤ get_or xs p 0) × (get_or xs p 0 ≤ n)
number_at n xs all p lt =
    let is = λ (k : ℕ). (1 ≤ k) × (k ≤ n) in
    let count = length-range_with_len 1 n in
    let range : All is (range_with_len 1 n) = All-from_get_or is (range_with_len 1 n) 0
    (λ i high. let at = get_or-range_with_len 1 n i 0 (omega arith) in (omega arith, omega arith)) in
    All-get_or is xs p 0 lt (All-permutation is (range_with_len 1 n) xs all range)

-- each of these numbers stands there
pub number_stands : (n : ℕ) (xs : List ℕ) → IsPermutation (range_with_len 1 n) xs → (k : ℕ) → 1 ≤ k → k ≤ n → (p : ℕ) × (p < length xs) × (get_or xs p 0 ≡ k)
number_stands n xs all k low high =
    let within : k - 1 < length (range_with_len 1 n) = omega (arith, length-range_with_len 1 n) in
    let here : get_or (range_with_len 1 n) (k - 1) k ≡ k = get_or-range_with_len 1 n (k - 1) k (omega arith) ∙ omega arith in
    let found = Contains-permutation (range_with_len 1 n) xs k all (k - 1, within, here) in
    (found.0, found.1, sym (get_or_default_zero xs found.0 k found.1) ∙ found.2)

-- at one place
pub place_at : (n : ℕ) (xs : List ℕ) → IsPermutation (range_with_len 1 n) xs → (i k : ℕ) → i < length xs → get_or xs i 0 ≡ k → place_in xs k ≡ Some i
place_at n xs all i k lt here =
    position_found (λ m. m == k) xs i 0 lt
    (λ j below. ne_eqb _ _ (λ same. apart_places n xs all j i below lt (same ∙ sym here)))
    (eq-eqb _ _ here)

-- a number that stands nowhere
pub place_none : (xs : List ℕ) (k : ℕ) → ((p : ℕ) → p < length xs → get_or xs p 0 ≢ k) → place_in xs k ≡ None
place_none xs k none = position_missed (λ m. m == k) xs 0 (λ p lt. ne_eqb _ _ (none p lt))

-- a place is one of the list
pub place_within : (xs : List ℕ) (k : ℕ) (o : Option ℕ) → o ≡ place_in xs k → IfSome o (λ p. p < length xs)
place_within xs k None e = tt
place_within xs k (Some p) e = (position-Some (λ m. m == k) xs p 0 (sym e)).0

-- the place in the order by number
pub place_by_number : (n k : ℕ) → 1 ≤ k → k ≤ n → place_in (range_with_len 1 n) k ≡ Some (k - 1)
place_by_number n k low high =
    let count = length-range_with_len 1 n in
    position_found (λ m. m == k) (range_with_len 1 n) (k - 1) 0 (omega arith)
    (λ j below. let at = get_or-range_with_len 1 n j 0 (omega arith) in ne_eqb _ _ (λ same. omega arith))
    (let at = get_or-range_with_len 1 n (k - 1) 0 (omega arith) in eq-eqb _ _ (omega arith))

pub no_place_by_number : (n k : ℕ) → ((1 ≤ k) → (k ≤ n) → ⊥) → place_in (range_with_len 1 n) k ≡ None
no_place_by_number n k none =
    let count = length-range_with_len 1 n in
    place_none (range_with_len 1 n) k (λ p lt same. let at = get_or-range_with_len 1 n p 0 (omega arith) in none (omega arith) (omega arith))

-- ---- a list of the places
-- one more place
pub listed_step : (xs : List ℕ) → IsPermutation (range_with_len 1 (length xs)) xs → (p n : ℕ) (places : List ℕ) → p < length xs → n ≡ get_or xs p 0 → length places ≡ length xs
    → ((q : ℕ) → q < p → get_or places (get_or xs q 0 - 1) 0 ≡ q)
    → (q : ℕ) → q < p + 1 → get_or (set places (n - 1) p) (get_or xs q 0 - 1) 0 ≡ q
listed_step xs all p n places lt here long so_far q below =
    let one = number_at (length xs) xs all p lt in
    elim (cases_eq q p) [
      | inl e ↦ let same : get_or xs q 0 ≡ n = ap (λ i. get_or xs i 0) e ∙ sym here in
          get_or-set_at places (n - 1) (get_or xs q 0 - 1) p 0 (ap (λ m. m - 1) same) (omega (arith, one.0, one.1)) ∙ sym e
      | inr ne ↦
          let other = number_at (length xs) xs all q (omega arith) in
          let apart : get_or xs q 0 ≢ n = λ same. apart_places (length xs) xs all q p (omega arith) lt (same ∙ here) in
          get_or-set_other places (n - 1) (get_or xs q 0 - 1) p 0 (λ same. apart (omega (arith, one.0, other.0))) ∙ so_far q (omega arith)
    ]

-- all of them
pub listed_all : (xs places : List ℕ) → IsPermutation (range_with_len 1 (length xs)) xs → length places ≡ length xs
    → ((q : ℕ) → q < length xs → get_or places (get_or xs q 0 - 1) 0 ≡ q) → (k : ℕ) → place_in xs k ≡ listed_place places k
listed_all xs places all long are k =
    elim (cases_eq k 0) [
      | inl zero ↦ place_none xs k (λ p lt same. let one = number_at (length xs) xs all p lt in omega (arith, one.0)) ∙ sym (cond-true (k == 0) None (slice_get places (k - 1)) (eq-eqb k 0 zero))
      | inr some ↦ elim (cases_lt (length xs) k) [
        | inl past ↦ place_none xs k (λ p lt same. let one = number_at (length xs) xs all p lt in omega (arith, one.1))
            ∙ sym (cond-false (k == 0) None (slice_get places (k - 1)) (ne_eqb k 0 some) ∙ slice_get_past places (k - 1) (omega arith))
        | inr high ↦
            let at = number_stands (length xs) xs all k (omega arith) high in
            let e : get_or places (k - 1) 0 ≡ at.0 = ap (λ m. get_or places (m - 1) 0) (sym at.2) ∙ are at.0 at.1 in
            place_at (length xs) xs all at.0 k at.1 at.2 ∙ ap (λ (p : ℕ). Some p) (sym e)
            ∙ sym (cond-false (k == 0) None (slice_get places (k - 1)) (ne_eqb k 0 some) ∙ slice_get-get_or places (k - 1) 0 (omega arith))
      ]
    ]
