-- Lists of numbers that differ, with the same numbers.
use Rattle.std.proofs.Common.{◌≡◌, ◌≢◌, ℕ, suc, ◌-◌, ◌<◌, ◌≤◌, ◌||◌, Bool, true, false, List, [], ◌∷◌, length, get_or, slice_index, eqb, remove, refl, sym, ap, subst, ◌∙◌, inl, inr, arith, true≢false, IsPermutation, eq-eqb, ne_eqb}
use Rattle.std.specs.List.{AllByRecursion, IsDistinct, list_any, range_with_len}
use Rattle.std.proofs.lemmas.Bool.{cases_eq}
use Rattle.std.proofs.lemmas.List.{get_or_default}
use Rattle.std.proofs.lemmas.List.Folds.{list_any_at}
use Rattle.std.proofs.lemmas.List.FromFn.{length-range_with_len, get_or-range_with_len}
use Rattle.std.proofs.lemmas.List.Sorted.{IsPermutation-cons, IsPermutation-refl, IsPermutation-remove, IsPermutation-sym, IsPermutation-trans, list_any-IsPermutation}
use Rattle.std.proofs.lemmas.Map.Keys.{IsDistinct-IsPermutation, IsDistinct-from_apart, IsDistinct-head, IsDistinct-tail}

abbrev pub has : List ℕ → ℕ → Bool
has xs q = list_any (eqb q) xs

pub has-at : (xs : List ℕ) (i : ℕ) (q : ℕ) → i < length xs → slice_index xs i ≡ q → has xs q ≡ true
has-at xs i q lt e = list_any_at (eqb q) xs i 0 lt (eq-eqb q (get_or xs i 0) (sym e))

pub at-has : (xs : List ℕ) (q : ℕ) → has xs q ≡ true → (i : ℕ) × (i < length xs) × (slice_index xs i ≡ q)
at-has [] q on = absurd (true≢false (sym on))
at-has (x ∷ xs) q on =
    elim (cases_eq q x) [
      | inl e ↦ (0, omega arith, sym e)
      | inr n ↦ let at = at-has xs q (sym (ap (λ (b : Bool). b || list_any (eqb q) xs) (ne_eqb q x n)) ∙ on) in (suc at.0, omega arith, at.2)
    ]

pub has-first : (x q : ℕ) (xs : List ℕ) → q ≡ x → has (x ∷ xs) q ≡ true
has-first x q xs e = ap (λ (b : Bool). b || has xs q) (eq-eqb q x e)

pub has-other : (x q : ℕ) (xs : List ℕ) → q ≢ x → has (x ∷ xs) q ≡ has xs q
has-other x q xs n = ap (λ (b : Bool). b || has xs q) (ne_eqb q x n)

lacks : (x : ℕ) (xs : List ℕ) → AllByRecursion (λ y. eqb x y ≡ false) xs → has xs x ≡ false
lacks x [] all = refl
lacks x (y ∷ ys) all = ap (λ (b : Bool). b || has ys x) all.0 ∙ lacks x ys all.1

pub flips : (x y : ℕ) → eqb x y ≡ eqb y x
flips x y =
    elim (cases_eq x y) [
      | inl e ↦ eq-eqb x y e ∙ sym (eq-eqb y x (sym e))
      | inr n ↦ ne_eqb x y n ∙ sym (ne_eqb y x (λ e. n (sym e)))
    ]

pub none-has : (ys : List ℕ) → ((q : ℕ) → has ys q ≡ true → has [] q ≡ true) → ys ≡ []
none-has [] back = refl
none-has (y ∷ ys) back = absurd (true≢false (sym (back y (has-first y y ys refl))))

-- a list that differs, with the numbers of another, is a permutation of it
pub same_numbers : (xs ys : List ℕ) → IsDistinct eqb xs → IsDistinct eqb ys → ((q : ℕ) → has xs q ≡ true → has ys q ≡ true) → ((q : ℕ) → has ys q ≡ true → has xs q ≡ true) → IsPermutation xs ys
same_numbers [] ys dx dy to back = subst (IsPermutation []) (sym (none-has ys back)) (IsPermutation-refl [])
same_numbers (x ∷ xs) ys dx dy to back =
    let at = at-has ys x (to x (has-first x x xs refl)) in
    let rest = remove ys at.0 in
    let moved : IsPermutation ys (x ∷ rest) = IsPermutation-remove ys at.0 x at.1 (sym at.2 ∙ get_or_default ys at.0 0 x at.1) in
    let apart : IsDistinct eqb (x ∷ rest) = IsDistinct-IsPermutation eqb flips ys (x ∷ rest) moved dy in
    let lacks_x = lacks x xs (IsDistinct-head eqb x xs dx) in
    let lacks_there = lacks x rest (IsDistinct-head eqb x rest apart) in
    let same : (q : ℕ) → has ys q ≡ has (x ∷ rest) q = λ q. list_any-IsPermutation (eqb q) ys (x ∷ rest) moved in
    let less = same_numbers xs rest (IsDistinct-tail eqb x xs dx) (IsDistinct-tail eqb x rest apart)
    (λ q on. elim (cases_eq q x) [
      | inl e ↦ absurd (true≢false (sym on ∙ ap (has xs) e ∙ lacks_x))
      | inr n ↦ sym (has-other x q rest n) ∙ sym (same q) ∙ to q (has-other x q xs n ∙ on)
    ])
    (λ q on. elim (cases_eq q x) [
      | inl e ↦ absurd (true≢false (sym on ∙ ap (has rest) e ∙ lacks_there))
      | inr n ↦ sym (has-other x q xs n) ∙ back q (same q ∙ has-other x q rest n ∙ on)
    ]) in
    IsPermutation-trans (x ∷ xs) (x ∷ rest) ys (IsPermutation-cons x xs rest less) (IsPermutation-sym ys (x ∷ rest) moved)

-- ---- the numbers from 1 on
range-has : (n q : ℕ) → 1 ≤ q → q ≤ n → has (range_with_len 1 n) q ≡ true
range-has n q low high = has-at (range_with_len 1 n) (q - 1) q (omega (arith, length-range_with_len 1 n)) (get_or-range_with_len 1 n (q - 1) 0 (omega arith) ∙ omega arith)

pub has-range : (n q : ℕ) → has (range_with_len 1 n) q ≡ true → (1 ≤ q) × (q ≤ n)
has-range n q on =
    let at = at-has (range_with_len 1 n) q on in
    let lt : at.0 < n = omega (arith, length-range_with_len 1 n, at.1) in
    let is = get_or-range_with_len 1 n at.0 0 lt in
    let e = at.2 in
    (omega arith, omega arith)

pub range_apart : (n : ℕ) → IsDistinct eqb (range_with_len 1 n)
range_apart n =
    IsDistinct-from_apart eqb (range_with_len 1 n)
    (λ i j d lt high. ne_eqb _ _ (λ e. let last : j < n = omega (arith, length-range_with_len 1 n) in let one =
    get_or-range_with_len 1 n i d (omega arith) in let two = get_or-range_with_len 1 n j d last in omega arith))

pub each_once : (n : ℕ) (ys : List ℕ) → IsDistinct eqb ys → ((i : ℕ) → i < length ys → (1 ≤ slice_index ys i) × (slice_index ys i ≤ n))
    → ((q : ℕ) → 1 ≤ q → q ≤ n → has ys q ≡ true) → IsPermutation (range_with_len 1 n) ys
each_once n ys apart within all =
    same_numbers (range_with_len 1 n) ys (range_apart n) apart
    (λ q on. let w = has-range n q on in all q w.0 w.1)
    (λ q on. let at = at-has ys q on in let w = within at.0 at.1 in let e = at.2 in range-has n q (omega arith) (omega arith))
