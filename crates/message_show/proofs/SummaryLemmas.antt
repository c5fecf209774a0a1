-- Summary lines and the places of a view.
use Rattle.std.proofs.Common.{◌≡◌, ℕ, zero, suc, ◌+◌, ◌-◌, ◌<◌, ◌≤◌, Bool, false, not, cond, ◌==◌, List, [], ◌∷◌, ◌++◌, length, take, drop, get_or, replicate, Option, Some, slice_get, refl, sym, ap, ◌∙◌, arith, All, Contains, ⊎_elim, eq-eqb, append-nil, min}
use Rattle.std.specs.List.{range_with_len, prefix_len, AllByRecursion, IsDistinct, flat_map}
use Rattle.std.proofs.lemmas.Bool.{ne_eqb, eqb-true, cases_Bool, false≢true}
use Rattle.std.proofs.lemmas.List.{take-replicate, get_or_default, take_more, take_min, drop_min, get_or-drop, length-drop}
use Rattle.std.proofs.lemmas.Grind.{flat_map-append}
use Rattle.std.proofs.lemmas.List.FromFn.{length-range_with_len, get_or-range_with_len}
use Rattle.std.proofs.lemmas.List.Sorted.{length_permutation, All-permutation, Contains-permutation}
use Rattle.std.proofs.lemmas.Map.Keys.{IsDistinct-IsPermutation}
use Rattle.message_state.specs.declared.row.Row.{Row}
use Rattle.message_state.specs.declared.shown.Shown.{Shown}
use Rattle.message_state.specs.ShownRows.{IsShown}
use Rattle.message_show.specs.Summary.{spaces, place_in, depth_of, columns, summary_of, summary, summaries, page_text, with_current}
use Rattle.mail_text.specs.Lines.{with_feed}

pub spaces_taken : (n : ℕ) → n ≤ 20 → take n (replicate 20 32) ≡ spaces n
unfolding spaces
spaces_taken n few = take-replicate n 20 32 few

-- ---- the numbers of a view differ

same_flips : (x y : ℕ) → (x == y) ≡ (y == x)
same_flips x y =
    ⊎_elim
    (λ same. same ∙ sym (eq-eqb y x (sym (eqb-true x y same))))
    (λ other. other ∙ sym (ne_eqb y x (λ e. false≢true (sym other ∙ eq-eqb x y (sym e)))))
    (cases_Bool (x == y))

range-above : (a b n : ℕ) → a < b → AllByRecursion (λ y. (a == y) ≡ false) (range_with_len b n)
range-above a b zero above = tt
range-above a b (suc n) above = (ne_eqb a b (λ e. absurd (omega arith)), range-above a (b + 1) n (omega arith))

range-distinct : (a n : ℕ) → IsDistinct (λ x y. x == y) (range_with_len a n)
unfolding IsDistinct
range-distinct a zero = tt
range-distinct a (suc n) = (range-above a (a + 1) n (omega arith), range-distinct (a + 1) n)

recursion-at : (P : ℕ → Type 0) (xs : List ℕ) (i : ℕ) → AllByRecursion P xs → i < length xs → P (get_or xs i 0)
recursion-at P [] i all within = absurd (omega arith)
recursion-at P (x ∷ xs) zero all within = all.0
recursion-at P (x ∷ xs) (suc i) all within = recursion-at P xs i all.1 (omega arith)

-- in numbers that differ each stands at its own place first
place-own : (xs : List ℕ) (i : ℕ) → IsDistinct (λ x y. x == y) xs → i < length xs → place_in xs (get_or xs i 0) ≡ i
unfolding IsDistinct
place-own [] i distinct within = absurd (omega arith)
place-own (x ∷ xs) zero distinct within = ap (λ (b : Bool). cond (not b) (1 + prefix_len (λ n. not (n == x)) xs) 0) (eq-eqb x x refl)
place-own (x ∷ xs) (suc i) distinct within =
    ap (λ (b : Bool). cond (not b) (1 + prefix_len (λ n. not (n == get_or xs i 0)) xs) 0) (recursion-at (λ y. (x == y) ≡ false) xs i distinct.0 (omega arith))
    ∙ ap (λ (n : ℕ). 1 + n) (place-own xs i distinct.1 (omega arith))
    ∙ omega arith

range-within : (n : ℕ) → All (λ k. (1 ≤ k) × (k ≤ n)) (range_with_len 1 n)
range-within n k d within =
    let inside : k < n = omega (arith, within, length-range_with_len 1 n) in
    let is = get_or-range_with_len 1 n k d inside in
    (omega (arith, is, inside), omega (arith, is, inside))

slice_get-read : {X : Type 0} (xs : List X) (i : ℕ) (x : X) → i < length xs → x ≡ get_or xs i x → slice_get xs i ≡ Some x
slice_get-read [] i x within is = absurd (omega arith)
slice_get-read (y ∷ xs) zero x within is = ap (λ z. Some z) (sym is)
slice_get-read (y ∷ xs) (suc i) x within is = slice_get-read xs i x (omega arith) is

-- ---- a valid value

module _ (shown : Shown) (valid : IsShown shown) where
  pub order-length : length shown.order ≡ length shown.rows
  order-length = length_permutation _ _ valid.order ∙ length-range_with_len 1 (length shown.rows)

  -- the number at a place is a message
  pub number-within : (place : ℕ) → place < length shown.order → (let k = get_or shown.order place 0 in (1 ≤ k) × (k ≤ length shown.rows))
  number-within place within = All-permutation (λ k. (1 ≤ k) × (k ≤ length shown.rows)) _ _ valid.order (range-within (length shown.rows)) place 0 within

  -- and it stands there alone
  pub number-place : (place : ℕ) → place < length shown.order → place_in shown.order (get_or shown.order place 0) ≡ place
  number-place place within = place-own shown.order place (IsDistinct-IsPermutation (λ x y. x == y) same_flips _ _ valid.order (range-distinct 1 (length shown.rows))) within

  -- a message has a place
  pub has-place : (k : ℕ) → 1 ≤ k → k ≤ length shown.rows → (place : ℕ) × (place < length shown.order) × (get_or shown.order place 0 ≡ k)
  has-place k first last =
      let inside : k - 1 < length shown.rows = omega arith in
      let is : get_or (range_with_len 1 (length shown.rows)) (k - 1) k ≡ k = get_or-range_with_len 1 (length shown.rows) (k - 1) k inside ∙ omega arith in
      let there : Contains (range_with_len 1 (length shown.rows)) k = (k - 1, omega (arith, inside, length-range_with_len 1 (length shown.rows)), is) in
      let found = Contains-permutation _ _ k valid.order there in
      (found.0, found.1, get_or_default shown.order found.0 0 k found.1 ∙ found.2)

  -- the summary of the message at a place
  pub summary-at : (current place width : ℕ) (row : Row) → place < length shown.order → (let k = get_or shown.order place 0 in row ≡ get_or shown.rows (k - 1) row
      → summary (with_current shown current) k width ≡ take (width - 1) (columns current k (get_or shown.depth place 0) row ++ row.texts.subject))
  unfolding summary
  summary-at current place width row within is =
      let k = get_or shown.order place 0 in
      let message = number-within place within in
      ap (λ (r : Option Row). summary_of current k (depth_of shown k) r width) (slice_get-read shown.rows (k - 1) row (omega (arith, message.0, message.1)) is)
      ∙ ap (λ (at : ℕ). take (width - 1) (columns current k (get_or shown.depth at 0) row ++ row.texts.subject)) (number-place place within)

-- ---- many lines

pub flat_map-more : (f : ℕ → List ℕ) (xs : List ℕ) (i : ℕ) → i < length xs → flat_map f (take (i + 1) xs) ≡ flat_map f (take i xs) ++ f (get_or xs i 0)
flat_map-more f xs i within =
    ap (flat_map f) (take_more xs i 0 within)
    ∙ flat_map-append f (take i xs) (get_or xs i 0 ∷ [])
    ∙ ap (λ (l : List ℕ). flat_map f (take i xs) ++ l) (append-nil (f (get_or xs i 0)))

pub page-more : (shown : Shown) (first n width : ℕ) → first + n < length shown.order
    → page_text shown first (n + 1) width ≡ page_text shown first n width ++ with_feed (summary shown (get_or shown.order (first + n) 0) width)
page-more shown first n width within =
    let inside : n < length (drop first shown.order) = omega (arith, length-drop first shown.order) in
    flat_map-more (λ k. with_feed (summary shown k width)) (drop first shown.order) n inside
    ∙ ap (λ (k : ℕ). page_text shown first n width ++ with_feed (summary shown k width)) (get_or-drop first shown.order n 0)

pub page-whole : (shown : Shown) (start lines first n width : ℕ) → first ≡ min start (length shown.order) → n ≡ min lines (length shown.order - first)
    → page_text shown first n width ≡ page_text shown start lines width
page-whole shown start lines first n width is_first is_n =
    let count : n ≡ min lines (length (drop first shown.order)) = is_n ∙ ap (min lines) (sym (length-drop first shown.order)) in
    ap (λ (k : ℕ). summaries shown (take k (drop first shown.order)) width) count
    ∙ ap (λ (l : List ℕ). summaries shown l width) (take_min lines (drop first shown.order))
    ∙ ap (λ (k : ℕ). summaries shown (take lines (drop k shown.order)) width) is_first
    ∙ ap (λ (l : List ℕ). summaries shown (take lines l) width) (drop_min start shown.order)
