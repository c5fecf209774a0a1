-- Messages under another stand together after it.
use Rattle.std.proofs.Common.{◌≡◌, ℕ, ◌<◌, ◌≤◌, List, [], ◌∷◌, ◌++◌, length, map, get_or, slice_index, sym, ap, subst, ◌∙◌, inl, inr, arith, nat_cmp, append-nil}
use Rattle.std.specs.Cmp.Lexicographic.{slice_cmp}
use Rattle.std.specs.List.Sorted.{IsStrictlySortedBy}
use Rattle.std.proofs.lemmas.Bool.{cases_eq, cases_lt}
use Rattle.std.proofs.lemmas.List.{get_or-map, length-map}
use Rattle.std.proofs.lemmas.Map.Keys.{Less-from_sorted}
use Rattle.thread_view.specs.ViewLaws.{IsFrom}
use Rattle.thread_view.proofs.OrderLemmas.{Before, before-itself, before-longer, before-then, between}

module _ (path : ℕ → List ℕ) (order : List ℕ) (ascend : IsStrictlySortedBy (slice_cmp nat_cmp) (map path order)) where
  in_order : (i j : ℕ) → i < j → j < length order → Before (path (slice_index order i)) (path (slice_index order j))
  in_order i j lt high =
      let low : i < length order = omega arith in
      let one = get_or-map path order i 0 [] low in
      let two = get_or-map path order j 0 [] high in
      subst (λ (l : List ℕ). Before l (path (slice_index order j))) one
      (subst (Before (get_or (map path order) i [])) two
      (Less-from_sorted (slice_cmp nat_cmp) (map path order) i j [] ascend lt (omega (arith, length-map order path))))

  pub follows : (i j : ℕ) → i < length order → j < length order → IsFrom path (slice_index order i) (slice_index order j) → i ≤ j
  follows i j low high from =
      elim (cases_lt j i) [
        | inl lt ↦ absurd (turned from.0 from.1 (in_order j i lt low))
        | inr le ↦ le
      ]
    where
      turned : (rest : List ℕ) → path (slice_index order j) ≡ path (slice_index order i) ++ rest → Before (path (slice_index order j)) (path (slice_index order i)) → ⊥
      turned [] e b = before-itself (path (slice_index order i)) (subst (λ (l : List ℕ). Before l (path (slice_index order i))) (e ∙ append-nil (path (slice_index order i))) b)
      turned (y ∷ rest) e b =
          before-itself (path (slice_index order i))
          (before-then (path (slice_index order i)) (path (slice_index order j)) (path (slice_index order i))
          (subst (Before (path (slice_index order i))) (sym e) (before-longer (path (slice_index order i)) y rest)) b)

  pub together : (i k j : ℕ) → i ≤ k → k ≤ j → j < length order → IsFrom path (slice_index order i) (slice_index order j) → IsFrom path (slice_index order i) (slice_index order k)
  together i k j low up high from =
      elim (cases_eq i k) [
        | inl e ↦ ([], ap (λ (n : ℕ). path (slice_index order n)) (sym e) ∙ sym (append-nil (path (slice_index order i))))
        | inr n ↦ elim (cases_eq k j) [
          | inl e ↦ (from.0, ap (λ (m : ℕ). path (slice_index order m)) e ∙ from.1)
          | inr m ↦
              let after = in_order i k (omega arith) (omega arith) in
              let before = in_order k j (omega arith) high in
              let w = between (path (slice_index order i)) [] from.0 (path (slice_index order k))
              (subst (λ (l : List ℕ). Before l (path (slice_index order k))) (sym (append-nil (path (slice_index order i)))) after) (subst (Before (path (slice_index order k))) from.1 before) in
              (w.0, w.1)
        ]
      ]
