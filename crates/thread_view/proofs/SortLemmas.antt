-- Numbers that are sorted with their keys.
use Rattle.std.proofs.Common.{◌≡◌, ℕ, zero, suc, ◌+◌, ◌-◌, ◌<◌, false, List, [], ◌∷◌, ◌++◌, length, map, get_or, slice_get, eqb, Option, refl, sym, ap, subst, ◌∙◌, arith, true≢false, IsPermutation, nat_cmp, is_lt, Ordering, Less, Equal, Greater, IsSorted, eq-eqb, ne_eqb}
use Rattle.std.specs.Cmp.{IsTotalOrder}
use Rattle.std.specs.declared.option.Option.TheVariants.{Some}
use Rattle.std.specs.List.{All, AllByRecursion, IsDistinct, range_with_len}
use Rattle.std.specs.List.Sorted.{IsStrictlySortedBy}
use Rattle.std.specs.Ordering.{ordering_then, ordering_reverse}
use Rattle.std.proofs.lemmas.Bool.{cond-false}
use Rattle.std.proofs.lemmas.Cmp.{nat_cmp_total, on_total, then_total}
use Rattle.std.proofs.lemmas.List.{get_or-map, length-map, map-append}
use Rattle.std.proofs.lemmas.List.Elements.{All-cons, All-head, All-nil, All-tail}
use Rattle.std.proofs.lemmas.List.Sorted.{All-permutation, IsPermutation-map}
use Rattle.std.proofs.lemmas.Map.Keys.{apart_from_distinct, IsDistinct-IsPermutation, sorted_from_all_adjacent}
use Rattle.message_state.specs.declared.row.Row.{Row}
use Rattle.thread_view.specs.Pairs.{AreSortedNumbers}
use Rattle.thread_view.specs.Parents.{row_at}
use Rattle.thread_view.specs.Sorting.{by_key, IsInOrder}
use Rattle.thread_view.proofs.OrderLemmas.{Compared, compared, less, same, greater, number-less, number-greater}
use Rattle.thread_view.proofs.PermutationLemmas.{flips, range_apart}

-- ---- numbers from 1 on, each with its key
pub range-more : (a n : ℕ) → range_with_len a (suc n) ≡ range_with_len a n ++ (a + n) ∷ []
range-more a zero = ap (λ (m : ℕ). m ∷ []) (let e : a ≡ a + 0 = omega arith in e)
range-more a (suc n) =
    ap (λ (l : List ℕ). a ∷ l) (range-more (a + 1) n) ∙ ap (λ (m : ℕ). a ∷ range_with_len (a + 1) n ++ m ∷ []) (let e : a + 1 + n ≡ a + suc n = omega arith in e)

pub keyed-more : {X : Type 0} (f : ℕ → X) (n : ℕ) → map f (range_with_len 1 (n + 1)) ≡ map f (range_with_len 1 n) ++ f (n + 1) ∷ []
keyed-more f n =
    ap (λ (m : ℕ). map f (range_with_len 1 m)) (let e : n + 1 ≡ suc n = omega arith in e)
    ∙ ap (map f) (range-more 1 n)
    ∙ map-append f (range_with_len 1 n) ((1 + n) ∷ [])
    ∙ ap (λ (m : ℕ). map f (range_with_len 1 n) ++ f m ∷ []) (let e : 1 + n ≡ n + 1 = omega arith in e)

row-there : (rows : List Row) (p : ℕ) (row : Row) → p < length rows → row ≡ get_or rows p row → slice_get rows p ≡ Some row
row-there [] p row lt read = absurd (omega arith)
row-there (r ∷ rows) zero row lt read = ap Some (sym read)
row-there (r ∷ rows) (suc p) row lt read = row-there rows p row (omega arith) read

pub row_at-there : (rows : List Row) (p : ℕ) (row : Row) → p < length rows → row ≡ get_or rows p row → row_at rows (p + 1) ≡ Some row
row_at-there rows p row lt read =
    cond-false _ _ _ (ne_eqb (p + 1) 0 (λ e. omega arith))
    ∙ ap (slice_get rows) (let e : p + 1 - 1 ≡ p = omega arith in e)
    ∙ row-there rows p row lt read

-- one more pair
pub keyed-step : {K : Type 0} (key : Option Row → K) (rows : List Row) (p : ℕ) (row : Row) (value : K) (old new : List (K × ℕ)) → p < length rows → row ≡ get_or rows p row → value ≡ key (Some row)
    → old ≡ map (λ k. (key (row_at rows k), k)) (range_with_len 1 p) → new ≡ old ++ (value, p + 1) ∷ [] → new ≡ map (λ k. (key (row_at rows k), k)) (range_with_len 1 (p + 1))
keyed-step key rows p row value old new lt read is before now =
    now
    ∙ ap (λ l. l ++ (value, p + 1) ∷ []) before
    ∙ ap (λ v. map (λ k. (key (row_at rows k), k)) (range_with_len 1 p) ++ (v, p + 1) ∷ []) (is ∙ ap key (sym (row_at-there rows p row lt read)))
    ∙ sym (keyed-more (λ k. (key (row_at rows k), k)) p)

-- ---- pairs that are sorted, and whose numbers differ, ascend
then-equal : (a b : Ordering) → ordering_then a b ≡ Equal → b ≡ Equal
then-equal Less b h = absurd (true≢false (ap is_lt h))
then-equal Equal b h = h
then-equal Greater b h = absurd (less_greater (ap ordering_reverse h))
  where
    less_greater : Less ≡ Equal → ⊥
    less_greater e = true≢false (ap is_lt e)

number-equal : (x y : ℕ) → nat_cmp x y ≡ Equal → x ≡ y
number-equal x y h = go (compared x y)
  where
    go : Compared x y → x ≡ y
    go (same e) = e
    go (less lt) = absurd (true≢false (ap is_lt (sym (number-less x y lt) ∙ h)))
    go (greater lt) = absurd (true≢false (ap is_lt (ap ordering_reverse (sym (number-greater x y lt) ∙ h))))

module _ {K : Type 0} (compare : K → K → Ordering) (total : IsTotalOrder compare) where
  pairs_total : IsTotalOrder (by_key compare)
  pairs_total = then_total (on_total (λ (p : K × ℕ). p.0) total) (on_total (λ (p : K × ℕ). p.1) nat_cmp_total)

  turned : (r : Ordering) → is_lt r ≡ false → (r ≡ Equal → ⊥) → ordering_reverse r ≡ Less
  turned Less no_less apart = absurd (true≢false no_less)
  turned Equal no_less apart = absurd (apart refl)
  turned Greater no_less apart = refl

  pub ascending : (ps : List (K × ℕ)) → IsSorted (by_key compare) ps → IsDistinct eqb (map (λ p. p.1) ps) → IsStrictlySortedBy (by_key compare) ps
  unfolding IsStrictlySortedBy
  ascending [] sorted apart = tt
  ascending (p ∷ ps) sorted apart = sorted_from_all_adjacent pairs_total (p ∷ ps) p next
    where
      next : (k : ℕ) → k + 1 < length (p ∷ ps) → by_key compare (get_or (p ∷ ps) k p) (get_or (p ∷ ps) (k + 1) p) ≡ Less
      next k lt =
          let a = get_or (p ∷ ps) k p in
          let b = get_or (p ∷ ps) (k + 1) p in
          let differ : eqb (get_or (map (λ q. q.1) (p ∷ ps)) k 0) (get_or (map (λ q. q.1) (p ∷ ps)) (k + 1) 0) ≡ false =
          apart_from_distinct eqb (map (λ q. q.1) (p ∷ ps)) k (k + 1) 0 apart (omega arith) (omega (arith, length-map (p ∷ ps) (λ (q : K × ℕ). q.1))) in
          let first = get_or-map (λ (q : K × ℕ). q.1) (p ∷ ps) k p 0 (omega arith) in
          let second = get_or-map (λ (q : K × ℕ). q.1) (p ∷ ps) (k + 1) p 0 lt in
          pairs_total.antisymm a b
          ∙ turned (by_key compare b a) (sorted k p (omega arith) lt)
          (λ e. true≢false (sym (eq-eqb _ _ (first ∙ sym (number-equal b.1 a.1 (then-equal (compare b.0 a.0) (nat_cmp b.1 a.1) e)) ∙ sym second)) ∙ differ))

-- ---- the numbers of sorted pairs
module _ {K V : Type 0} (view : K → V) (compare : K → K → Ordering) (by_view : V → V → Ordering) (total : IsTotalOrder compare)
    (alike : (a b : K) → compare a b ≡ by_view (view a) (view b)) (key : ℕ → V) where
  abbrev seen : K × ℕ → V × ℕ
  seen p = (view p.0, p.1)

  abbrev own : ℕ → V × ℕ
  own k = (key k, k)

  numbers-own : (xs : List ℕ) → map (λ (q : V × ℕ). q.1) (map own xs) ≡ xs
  numbers-own [] = refl
  numbers-own (x ∷ xs) = ap (λ (l : List ℕ). x ∷ l) (numbers-own xs)

  numbers-seen : (ps : List (K × ℕ)) → map (λ (q : V × ℕ). q.1) (map seen ps) ≡ map (λ (p : K × ℕ). p.1) ps
  numbers-seen [] = refl
  numbers-seen (p ∷ ps) = ap (λ (l : List ℕ). p.1 ∷ l) (numbers-seen ps)

  all-own : (xs : List ℕ) → All (λ (q : V × ℕ). q ≡ own q.1) (map own xs)
  all-own [] = All-nil (λ (q : V × ℕ). q ≡ own q.1)
  all-own (x ∷ xs) = All-cons (λ (q : V × ℕ). q ≡ own q.1) (own x) (map own xs) refl (all-own xs)

  own-back : (qs : List (V × ℕ)) → All (λ (q : V × ℕ). q ≡ own q.1) qs → map own (map (λ (q : V × ℕ). q.1) qs) ≡ qs
  own-back [] all = refl
  own-back (q ∷ qs) all = λ i. sym (All-head (λ (p : V × ℕ). p ≡ own p.1) q qs all) i ∷ own-back qs (All-tail (λ (p : V × ℕ). p ≡ own p.1) q qs all) i

  all-seen : (p : K × ℕ) (ps : List (K × ℕ)) → AllByRecursion (λ y. by_key compare p y ≡ Less) ps → AllByRecursion (λ y. by_key by_view (seen p) y ≡ Less) (map seen ps)
  all-seen p [] all = tt
  all-seen p (q ∷ qs) all = (
    ap (λ (r : Ordering). ordering_then r (nat_cmp p.1 q.1)) (sym (alike p.0 q.0)) ∙ all.0,
    all-seen p qs all.1,
  )

  ascending-seen : (ps : List (K × ℕ)) → IsStrictlySortedBy (by_key compare) ps → IsStrictlySortedBy (by_key by_view) (map seen ps)
  unfolding IsStrictlySortedBy
  ascending-seen [] sorted = tt
  ascending-seen (p ∷ ps) sorted = (all-seen p ps sorted.0, ascending-seen ps sorted.1)

  pub in_order : (n : ℕ) (pairs : List (K × ℕ)) (numbers : List ℕ) → map seen pairs ≡ map own (range_with_len 1 n) → AreSortedNumbers compare pairs numbers → IsInOrder by_view key n numbers
  in_order n pairs numbers are sorts =
      let moved : IsPermutation (map own (range_with_len 1 n)) (map seen sorts.sorted) =
      subst (λ l. IsPermutation l (map seen sorts.sorted)) are (IsPermutation-map seen pairs sorts.sorted sorts.moved) in
      let is : map (λ (q : V × ℕ). q.1) (map seen sorts.sorted) ≡ numbers = numbers-seen sorts.sorted ∙ sym sorts.are in
      let once : IsPermutation (range_with_len 1 n) numbers =
      subst (IsPermutation (range_with_len 1 n)) is
      (subst (λ l. IsPermutation l (map (λ (q : V × ℕ). q.1) (map seen sorts.sorted))) (numbers-own (range_with_len 1 n))
      (IsPermutation-map (λ (q : V × ℕ). q.1) (map own (range_with_len 1 n)) (map seen sorts.sorted) moved)) in
      let apart : IsDistinct eqb numbers = IsDistinct-IsPermutation eqb flips (range_with_len 1 n) numbers once (range_apart n) in
      let back : map own numbers ≡ map seen sorts.sorted =
      ap (map own) (sym is) ∙ own-back (map seen sorts.sorted)
      (All-permutation (λ (q : V × ℕ). q ≡ own q.1) (map own (range_with_len 1 n)) (map seen sorts.sorted) moved (all-own (range_with_len 1 n))) in
      record {
        once = once;
        ascend = subst (IsStrictlySortedBy (by_key by_view)) (sym back) (ascending-seen sorts.sorted (ascending compare total sorts.sorted sorts.ascend (subst (IsDistinct eqb) sorts.are apart)));
      }

-- pairs that are sorted by their own keys
pub in_order-own : {K : Type 0} (compare : K → K → Ordering) (total : IsTotalOrder compare) (key : ℕ → K) (n m : ℕ) (pairs : List (K × ℕ))
    (numbers : List ℕ) → m ≡ n → pairs ≡ map (λ k. (key k, k)) (range_with_len 1 m) → AreSortedNumbers compare pairs numbers → IsInOrder compare key n numbers
in_order-own {K} compare total key n m pairs numbers all are sorts =
    in_order (λ (k : K). k) compare compare total (λ a b. refl) key n pairs numbers (same_pairs pairs ∙ are ∙ ap (λ (k : ℕ). map {B = K × ℕ} (λ (j : ℕ). (key j, j)) (range_with_len 1 k)) all) sorts
  where
    same_pairs : (ps : List (K × ℕ)) → map {B = K × ℕ} (λ (p : K × ℕ). (p.0, p.1)) ps ≡ ps
    same_pairs [] = refl
    same_pairs (p ∷ ps) = ap (λ l. p ∷ l) (same_pairs ps)
