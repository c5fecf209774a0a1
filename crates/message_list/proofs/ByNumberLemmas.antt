-- Messages in a view by number.
use Rattle.std.proofs.Common.{◌≡◌, ℕ, ◌+◌, ◌-◌, ◌<◌, ◌≤◌, Bool, true, false, ◌==◌, List, [], length, get_or, Option, Some, None, ap, ◌∙◌, arith, take, drop, slice_get, reverse}
use Rattle.std.specs.Option.{option_map_or}
use Rattle.std.specs.List.{range_with_len, find}
use Rattle.std.proofs.lemmas.Bool.{ne_eqb, cond-false}
use Rattle.std.proofs.lemmas.List.{get_or-drop, get_or-take, get_or-reverse, length-drop, length-take-le, length-reverse}
use Rattle.std.proofs.lemmas.List.FromFn.{get_or-range_with_len}
use Rattle.message_state.specs.declared.row.Row.{Row}
use Rattle.message_state.specs.declared.shown.Shown.{Shown}
use Rattle.message_state.specs.LiveRows.{live_at, is_live}
use Rattle.message_state.specs.ShownRows.{IsShown}
use Rattle.message_list.specs.declared.list.Purpose.TheVariants.{Live}
use Rattle.message_list.specs.Places.{in_base, place_of, after_message, before_message}
use Rattle.message_list.proofs.ListFacts.{find_first, find_none}
use Rattle.message_list.proofs.ViewLemmas.{place_at, place_none, message_at}

-- a message is live where its row is
pub live-message : (shown : Shown) (n : ℕ) → 1 ≤ n → in_base shown Live n ≡ live_at shown.rows (n - 1)
live-message shown n low = ap (λ (o : Option Row). option_map_or (λ (row : Row). is_live row.mark) o false)
    (cond-false (n == 0) None (slice_get shown.rows (n - 1)) (ne_eqb n 0 (λ e. absurd (omega (arith, low, e)))))

module _ (shown : Shown) (valid : IsShown shown) (by_number : shown.order ≡ range_with_len 1 (length shown.order)) where
  -- message i + 1 stands at place i
  at : (i d : ℕ) → i < length shown.order → get_or shown.order i d ≡ 1 + i
  at i d lt = ap (λ (o : List ℕ). get_or o i d) by_number ∙ get_or-range_with_len 1 (length shown.order) i d lt

  place : (k : ℕ) → 1 ≤ k → k ≤ length shown.order → place_of shown k ≡ Some (k - 1)
  place k low high = place_at shown valid (k - 1) k (omega arith) (at (k - 1) 0 (omega arith) ∙ omega arith)

  after : (k : ℕ) → 1 ≤ k → k ≤ length shown.order → after_message shown k ≡ drop k shown.order
  after k low high = ap (λ (o : Option ℕ). option_map_or (λ p. drop (p + 1) shown.order) o []) (place k low high) ∙ ap (λ (n : ℕ). drop n shown.order) (let e : k - 1 + 1 ≡ k = omega arith in e)

  before : (k : ℕ) → 1 ≤ k → k ≤ length shown.order → before_message shown k ≡ reverse (take (k - 1) shown.order)
  before k low high = ap (λ (o : Option ℕ). option_map_or (λ p. reverse (take p shown.order)) o []) (place k low high)

  after-at : (k i d : ℕ) → i < length (drop k shown.order) → get_or (drop k shown.order) i d ≡ 1 + (k + i)
  after-at k i d lt = get_or-drop k shown.order i d ∙ at (k + i) d (omega (arith, length-drop k shown.order))

  before-length : (k : ℕ) → k - 1 ≤ length shown.order → length (reverse (take (k - 1) shown.order)) ≡ k - 1
  before-length k high = length-reverse (take (k - 1) shown.order) ∙ length-take-le (k - 1) shown.order high

  before-at : (k i d : ℕ) → k - 1 ≤ length shown.order → i < k - 1 → get_or (reverse (take (k - 1) shown.order)) i d ≡ k - 1 - i
  before-at k i d high lt =
      let long = length-take-le (k - 1) shown.order high in
      let back = get_or-reverse (take (k - 1) shown.order) i d (omega arith) in
      let place = length (take (k - 1) shown.order) - 1 - i in
      let below : place < k - 1 = omega arith in
      let front = get_or-take (k - 1) shown.order place d below in
      let here = at place d (omega arith) in
      omega arith

  -- the first message after message k that passes
  pub after-found : (p : ℕ → Bool) (k q : ℕ) → 1 ≤ k → k < q → q ≤ length shown.order → p q ≡ true → ((m : ℕ) → k < m → m < q → p m ≡ false) → find p (after_message shown k) ≡ Some q
  after-found p k q low lt high pass none =
      let long = length-drop k shown.order in
      let within : q - k - 1 < length (drop k shown.order) = omega arith in
      let here : get_or (drop k shown.order) (q - k - 1) 0 ≡ q = after-at k (q - k - 1) 0 within ∙ omega arith in
      ap (find p) (after k low (omega arith)) ∙
      find_first p (drop k shown.order) (q - k - 1) 0 within
      (λ i h. ap p (after-at k i 0 (omega arith)) ∙ none (1 + (k + i)) (omega arith) (omega arith))
      (ap p here ∙ pass) ∙ ap Some here

  -- no message after message k passes
  pub after-none : (p : ℕ → Bool) (k : ℕ) → 1 ≤ k → k ≤ length shown.order → ((m : ℕ) → k < m → p m ≡ false) → find p (after_message shown k) ≡ None
  after-none p k low high none =
      ap (find p) (after k low high) ∙ find_none p (drop k shown.order) (λ i d h. ap p (after-at k i d h) ∙ none (1 + (k + i)) (omega arith))

  -- the last message before message k that passes
  pub before-found : (p : ℕ → Bool) (k q : ℕ) → k ≤ length shown.order → 1 ≤ q → q < k → p q ≡ true → ((m : ℕ) → q < m → m < k → p m ≡ false) → find p (before_message shown k) ≡ Some q
  before-found p k q high low lt pass none =
      let long = before-length k (omega arith) in
      let here : get_or (reverse (take (k - 1) shown.order)) (k - 1 - q) 0 ≡ q = before-at k (k - 1 - q) 0 (omega arith) (omega arith) ∙ omega arith in
      ap (find p) (before k (omega arith) high) ∙
      find_first p (reverse (take (k - 1) shown.order)) (k - 1 - q) 0 (omega arith)
      (λ i h. ap p (before-at k i 0 (omega arith) (omega arith)) ∙ none (k - 1 - i) (omega arith) (omega arith))
      (ap p here ∙ pass) ∙ ap Some here

  -- no message before message k passes
  pub before-none : (p : ℕ → Bool) (k : ℕ) → 1 ≤ k → k ≤ length shown.order → ((m : ℕ) → 1 ≤ m → m < k → p m ≡ false) → find p (before_message shown k) ≡ None
  before-none p k low high none =
      let long = before-length k (omega arith) in
      ap (find p) (before k low high) ∙ find_none p (reverse (take (k - 1) shown.order)) (λ i d h. ap p (before-at k i d (omega arith) (omega arith)) ∙ none (k - 1 - i) (omega arith) (omega arith))

-- nothing stands after what is no message
pub after-nothing : (shown : Shown) → IsShown shown → (p : ℕ → Bool) (k : ℕ) → ((1 ≤ k) × (k ≤ length shown.rows) → ⊥) → find p (after_message shown k) ≡ None
after-nothing shown valid p k nowhere =
    let none : place_of shown k ≡ None = place_none shown k (λ i lt e. nowhere (let m = message_at shown valid i lt in (omega (arith, m.0, e), omega (arith, m.1, e)))) in
    ap (λ (o : Option ℕ). find p (option_map_or (λ i. drop (i + 1) shown.order) o [])) none
