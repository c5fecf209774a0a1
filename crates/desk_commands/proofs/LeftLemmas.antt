-- Messages that are left where others are deleted.
use Rattle.std.proofs.Common.{◌≡◌, ℕ, ◌+◌, ◌-◌, ◌<◌, ◌≤◌, Bool, true, false, ◌&&◌, not, List, length, Some, None, sym, ap, ◌∙◌, arith, inl, inr}
use Rattle.std.specs.List.{range_with_len, find}
use Rattle.message_state.specs.declared.shown.Shown.{Shown}
use Rattle.message_state.specs.ShownRows.{IsShown}
use Rattle.std.proofs.lemmas.Bool.{cases_lt}
use Rattle.message_state.specs.LiveRows.{live_at, IsPrevious}
use Rattle.message_state.specs.declared.mark.Standing.TheVariants as standing
use Rattle.message_list.specs.Places.{in_base, before_message}
use Rattle.message_list.specs.declared.list.Purpose.TheVariants.{Live}
use Rattle.message_list.proofs.ViewLemmas.{order_length, in_base-message}
use Rattle.std.proofs.Common.{refl}
use Rattle.message_list.proofs.ByNumberLemmas.{before-found, before-none, live-message}
use Rattle.command_desk.specs.Desks.{IsMessageOf}
use Rattle.command_desk.specs.Selecting.{is_among}
use Rattle.desk_commands.specs.Deleting.{is_left}

-- a message that is left is one
pub left-message : (shown : Shown) (ns : List ℕ) (n : ℕ) → is_left shown ns n ≡ true → IsMessageOf shown n
left-message shown ns n is = in_base-message shown Live n (and-first (in_base shown Live n) _ is)
  where
    and-first : (a b : Bool) → (a && b) ≡ true → a ≡ true
    and-first true b h = refl
    and-first false b h = h

-- a message that isn't live isn't left
dead-left : (shown : Shown) (ns : List ℕ) (m : ℕ) → 1 ≤ m → live_at shown.rows (m - 1) ≡ false → is_left shown ns m ≡ false
dead-left shown ns m low dead = ap (λ (b : Bool). b && not (is_among ns m)) (live-message shown m low ∙ dead)

-- the nearest message before another that is left, by the nearest live row
pub left-found : (shown : Shown) → IsShown shown → shown.order ≡ range_with_len 1 (length shown.order) → (ns : List ℕ) (last end row : ℕ) → last ≤ length shown.rows → end < last
    → ((m : ℕ) → end < m → m < last → is_left shown ns m ≡ false) → IsPrevious standing.Live shown.rows end (Some row) → is_among ns (row + 1) ≡ false
    → Some (row + 1) ≡ find (is_left shown ns) (before_message shown last)
left-found shown valid by ns last end row high below none is apart =
    let same = order_length shown valid in
    let lt = is.0 in
    sym (before-found shown valid by (is_left shown ns) last (row + 1) (omega arith) (omega arith) (omega arith)
    (ap (λ (b : Bool). b && not (is_among ns (row + 1))) (live-message shown (row + 1) (omega arith) ∙ ap (live_at shown.rows) (let e : row + 1 - 1 ≡ row = omega arith in e) ∙ is.2) ∙ ap not apart)
    (λ m a b. elim (cases_lt end m) [
      | inl gt ↦ none m gt b
      | inr le ↦ dead-left shown ns m (omega arith) (is.3 (m - 1) (omega arith) (omega arith))
    ]))

pub left-none : (shown : Shown) → IsShown shown → shown.order ≡ range_with_len 1 (length shown.order) → (ns : List ℕ) (last end : ℕ) → last ≤ length shown.rows → end < last
    → ((m : ℕ) → end < m → m < last → is_left shown ns m ≡ false) → IsPrevious standing.Live shown.rows end None
    → None ≡ find (is_left shown ns) (before_message shown last)
left-none shown valid by ns last end high below none is =
    let same = order_length shown valid in
    sym (before-none shown valid by (is_left shown ns) last (omega arith) (omega arith)
    (λ m a b. elim (cases_lt end m) [
      | inl gt ↦ none m gt b
      | inr le ↦ dead-left shown ns m a (is (m - 1) (omega arith))
    ]))
