-- The places of messages in a view.
use Rattle.std.proofs.Common.{◌≡◌, ◌≢◌, ℕ, ◌-◌, ◌<◌, ◌≤◌, true, false, ◌==◌, length, get_or, Option, Some, None, refl, sym, ap, ◌∙◌, arith, inl, inr}
use Rattle.std.specs.Option.{option_map_or}
use Rattle.std.specs.List.{range_with_len, slice_get, All}
use Rattle.std.proofs.lemmas.Bool.{eq-eqb, ne_eqb, cases_eq, cond-true, cond-false, false≢true}
use Rattle.std.proofs.lemmas.Option.{slice_get_cases}
use Rattle.std.proofs.lemmas.Grind.{get_or_default_zero}
use Rattle.std.proofs.lemmas.List.Sorted.{length_permutation, Contains-permutation, All-permutation}
use Rattle.std.proofs.lemmas.List.Elements.{All-from_get_or, All-get_or}
use Rattle.std.proofs.lemmas.List.FromFn.{length-range_with_len, get_or-range_with_len}
use Rattle.message_state.specs.declared.row.Row.{Row}
use Rattle.message_list.specs.declared.list.Purpose.{Purpose}
use Rattle.message_state.specs.declared.shown.Shown.{Shown}
use Rattle.message_state.specs.ShownRows.{IsShown}
use Rattle.message_list.specs.Places.{is_for, in_base, place_of}
use Rattle.message_state.proofs.PlaceLemmas.{position_found, position_missed, apart_places}

-- a message stands at one place
pub place_at : (shown : Shown) → IsShown shown → (i n : ℕ) → i < length shown.order → get_or shown.order i 0 ≡ n → place_of shown n ≡ Some i
place_at shown valid i n lt here =
    position_found (λ m. m == n) shown.order i 0 lt
    (λ k below. ne_eqb _ _ (λ same. apart_places (length shown.rows) shown.order valid.order k i below lt (same ∙ sym here)))
    (eq-eqb _ _ here)

-- a number that stands nowhere
pub place_none : (shown : Shown) → (n : ℕ) → ((k : ℕ) → k < length shown.order → get_or shown.order k 0 ≢ n) → place_of shown n ≡ None
place_none shown n none = position_missed (λ m. m == n) shown.order 0 (λ k lt. ne_eqb _ _ (none k lt))

-- the view has each message once
pub order_length : (shown : Shown) → IsShown shown → length shown.order ≡ length shown.rows
order_length shown valid = length_permutation _ _ valid.order ∙ length-range_with_len 1 (length shown.rows)

-- a message of the base set is one of the rows
pub in_base-message : (shown : Shown) (purpose : Purpose) (n : ℕ) → in_base shown purpose n ≡ true → (1 ≤ n) × (n ≤ length shown.rows)
in_base-message shown purpose n within =
    let passes = λ (o : Option Row). option_map_or (λ row. is_for purpose row.mark) o false in
    elim (cases_eq n 0) [
      | inl e ↦ absurd (false≢true (sym (ap passes (cond-true (n == 0) None (slice_get shown.rows (n - 1)) (eq-eqb n 0 e))) ∙ within))
      | inr ne ↦ elim (slice_get_cases shown.rows (n - 1)).1 [
        | inl found ↦ (omega arith, omega (arith, found.1))
        | inr past ↦ absurd (false≢true (sym (ap passes (cond-false (n == 0) None (slice_get shown.rows (n - 1)) (ne_eqb n 0 ne) ∙ past.1)) ∙ within))
      ]
    ]

-- a message stands in the view
pub stands : (shown : Shown) → IsShown shown → (n : ℕ) → 1 ≤ n → n ≤ length shown.rows → (p : ℕ) × (p < length shown.order) × (get_or shown.order p 0 ≡ n)
stands shown valid n low high =
    let within : n - 1 < length (range_with_len 1 (length shown.rows)) = omega (arith, length-range_with_len 1 (length shown.rows)) in
    let here : get_or (range_with_len 1 (length shown.rows)) (n - 1) n ≡ n = get_or-range_with_len 1 (length shown.rows) (n - 1) n (omega arith) ∙ omega arith in
    let found = Contains-permutation (range_with_len 1 (length shown.rows)) shown.order n valid.order (n - 1, within, here) in
    (found.0, found.1, sym (get_or_default_zero shown.order found.0 n found.1) ∙ found.2)

-- what stands in the view is a message
pub message_at : (shown : Shown) → IsShown shown → (p : ℕ) → p < length shown.order → (1 ≤ get_or shown.order p 0) × (get_or shown.order p 0 ≤ length shown.rows)
message_at shown valid p lt =
    let is = λ (n : ℕ). (1 ≤ n) × (n ≤ length shown.rows) in
    let count = length-range_with_len 1 (length shown.rows) in
    let range : All is (range_with_len 1 (length shown.rows)) = All-from_get_or is (range_with_len 1 (length shown.rows)) 0
    (λ i high. let at = get_or-range_with_len 1 (length shown.rows) i 0 (omega arith) in (omega arith, omega arith)) in
    All-get_or is shown.order p 0 lt (All-permutation is (range_with_len 1 (length shown.rows)) shown.order valid.order range)

-- two messages of the view at different places
pub apart_messages : (shown : Shown) → IsShown shown → (p q : ℕ) → p < length shown.order → q < length shown.order → q ≢ p → get_or shown.order q 0 ≢ get_or shown.order p 0
apart_messages shown valid p q high lt other same =
    let one : Some q ≡ Some p = sym (place_at shown valid q (get_or shown.order p 0) lt same) ∙ place_at shown valid p (get_or shown.order p 0) high refl in
    let e : q ≡ p = cc in other e
