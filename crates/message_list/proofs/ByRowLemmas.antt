-- Messages of the base set in a view by number, by their rows.
use Rattle.std.proofs.Common.{◌≡◌, ℕ, ◌+◌, ◌-◌, ◌<◌, ◌≤◌, false, ◌==◌, List, length, get_or, Option, Some, None, sym, ap, ◌∙◌, arith, take, drop, slice_get, reverse}
use Rattle.std.specs.Option.{option_map_or}
use Rattle.std.specs.List.{find}
use Rattle.std.proofs.lemmas.Bool.{ne_eqb, cond-false}
use Rattle.std.proofs.lemmas.List.{get_or-drop, get_or-take, get_or-reverse, length-drop, length-take-le, length-reverse}
use Rattle.std.proofs.lemmas.Option.{slice_get-get_or}
use Rattle.std.proofs.lemmas.List.FromFn.{length-range_with_len, get_or-range_with_len}
use Rattle.message_state.specs.declared.row.Row.{Row}
use Rattle.message_state.specs.declared.shown.Shown.{Shown}
use Rattle.message_list.specs.declared.list.Purpose.{Purpose}
use Rattle.message_list.specs.Places.{in_base, is_for}
use Rattle.message_list.specs.ByRow.{IsByRow, IsNextFor, IsPreviousFor, row_is_for}
use Rattle.message_list.proofs.ListFacts.{find_first, find_none}

module _ (shown : Shown) (purpose : Purpose) (by : IsByRow shown) where
  -- the number of places, and the message at each
  pub count : length shown.order ≡ length shown.rows
  count = ap length by ∙ length-range_with_len 1 (length shown.rows)

  at : (i d : ℕ) → i < length shown.order → get_or shown.order i d ≡ 1 + i
  at i d lt = ap (λ (o : List ℕ). get_or o i d) by ∙ get_or-range_with_len 1 (length shown.rows) i d (let all = count in omega arith)

  -- a message is in the base set where its row is for it
  here : (i : ℕ) → in_base shown purpose (1 + i) ≡ row_is_for purpose shown.rows i
  here i =
      let n = 1 + i in
      ap (λ (o : Option Row). option_map_or (λ (row : Row). is_for purpose row.mark) o false) (cond-false (n == 0) None (slice_get shown.rows (n - 1)) (ne_eqb n 0 (λ e. absurd (omega (arith, e)))))
      ∙ ap (row_is_for purpose shown.rows) (let e : n - 1 ≡ i = omega arith in e)

  from-at : (k i d : ℕ) → k + i < length shown.order → get_or (drop k shown.order) i d ≡ 1 + (k + i)
  from-at k i d lt = get_or-drop k shown.order i d ∙ at (k + i) d lt

  -- from a place on
  pub from-found : (k q : ℕ) → IsNextFor purpose shown.rows k (Some q) → slice_get shown.order q ≡ find (in_base shown purpose) (drop k shown.order)
  from-found k q is =
      let low = is.0 in
      let high = is.1 in
      let all = count in
      let long = length-drop k shown.order in
      let within : q < length shown.order = omega arith in
      let place : k + (q - k) ≡ q = omega arith in
      let first : get_or (drop k shown.order) (q - k) 0 ≡ get_or shown.order q 0 = get_or-drop k shown.order (q - k) 0 ∙ ap (λ (i : ℕ). get_or shown.order i 0) place in
      let found = find_first (in_base shown purpose) (drop k shown.order) (q - k) 0 (omega arith)
      (λ i h. ap (in_base shown purpose) (from-at k i 0 (omega arith)) ∙ here (k + i) ∙ is.3 (k + i) (omega arith) (omega arith))
      (ap (in_base shown purpose) (first ∙ at q 0 within) ∙ here q ∙ is.2) in
      slice_get-get_or shown.order q 0 within ∙ ap Some (sym first) ∙ sym found

  pub from-none : (k : ℕ) → IsNextFor purpose shown.rows k None → None ≡ find (in_base shown purpose) (drop k shown.order)
  from-none k is =
      let all = count in
      let long = length-drop k shown.order in
      sym (find_none (in_base shown purpose) (drop k shown.order)
      (λ i d h. ap (in_base shown purpose) (from-at k i d (omega arith)) ∙ here (k + i) ∙ is (k + i) (omega arith)))

  back-length : (e : ℕ) → e ≤ length shown.order → length (reverse (take e shown.order)) ≡ e
  back-length e high = length-reverse (take e shown.order) ∙ length-take-le e shown.order high

  -- the places before one, the nearest first
  back-place : (e i d : ℕ) → e ≤ length shown.order → i < e → get_or (reverse (take e shown.order)) i d ≡ get_or shown.order (e - 1 - i) d
  back-place e i d high lt =
      let long = length-take-le e shown.order high in
      let place : length (take e shown.order) - 1 - i ≡ e - 1 - i = omega arith in
      get_or-reverse (take e shown.order) i d (omega arith)
      ∙ ap (λ (j : ℕ). get_or (take e shown.order) j d) place
      ∙ get_or-take e shown.order (e - 1 - i) d (omega arith)

  back-at : (e i d : ℕ) → e ≤ length shown.order → i < e → get_or (reverse (take e shown.order)) i d ≡ 1 + (e - 1 - i)
  back-at e i d high lt = back-place e i d high lt ∙ at (e - 1 - i) d (let all = count in omega arith)

  -- before a place
  pub back-found : (e q : ℕ) → e ≤ length shown.order → IsPreviousFor purpose shown.rows e (Some q) → slice_get shown.order q ≡ find (in_base shown purpose) (reverse (take e shown.order))
  back-found e q high is =
      let below = is.0 in
      let long = back-length e high in
      let within : q < length shown.order = omega arith in
      let place : e - 1 - (e - 1 - q) ≡ q = omega arith in
      let first : get_or (reverse (take e shown.order)) (e - 1 - q) 0 ≡ get_or shown.order q 0 = back-place e (e - 1 - q) 0 high (omega arith) ∙ ap (λ (i : ℕ). get_or shown.order i 0) place in
      let found = find_first (in_base shown purpose) (reverse (take e shown.order)) (e - 1 - q) 0 (omega arith)
      (λ i h. ap (in_base shown purpose) (back-at e i 0 high (omega arith)) ∙ here (e - 1 - i) ∙ is.3 (e - 1 - i) (omega arith) (omega arith))
      (ap (in_base shown purpose) (first ∙ at q 0 (let all = count in omega arith)) ∙ here q ∙ is.2) in
      slice_get-get_or shown.order q 0 within ∙ ap Some (sym first) ∙ sym found

  pub back-none : (e : ℕ) → e ≤ length shown.order → IsPreviousFor purpose shown.rows e None → None ≡ find (in_base shown purpose) (reverse (take e shown.order))
  back-none e high is =
      let long = back-length e high in
      sym (find_none (in_base shown purpose) (reverse (take e shown.order))
      (λ i d h. ap (in_base shown purpose) (back-at e i d high (omega arith)) ∙ here (e - 1 - i) ∙ is (e - 1 - i) (omega arith)))
