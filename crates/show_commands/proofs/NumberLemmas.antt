-- The least of some numbers above another.
use Rattle.std.proofs.Common.{◌≡◌, ℕ, ◌-◌, ◌<◌, ◌≤◌, true, false, List, length, Option, Some, None, sym, arith}
use Rattle.std.specs.Prelude.{All}
use Rattle.std.specs.List.{range_with_len, find}
use Rattle.message_state.specs.declared.shown.Shown.{Shown}
use Rattle.message_state.specs.ShownRows.{IsShown}
use Rattle.message_list.specs.Places.{after_message}
use Rattle.message_list.proofs.ViewLemmas.{order_length}
use Rattle.message_list.proofs.ByNumberLemmas.{after-found, after-none, after-nothing}
use Rattle.command_desk.specs.Desks.{IsMessageOf}
use Rattle.command_desk.specs.Selecting.{is_among}
use Rattle.command_desk.proofs.DeskLemmas.{among-message}

-- the number, if there is one, is the least of these above another
abbrev pub IsLeastAbove : ℕ → List ℕ → Option ℕ → Type 0
IsLeastAbove k ns None = (m : ℕ) → k < m → is_among ns m ≡ false
IsLeastAbove k ns (Some q) = (k < q) × (is_among ns q ≡ true) × ((m : ℕ) → k < m → m < q → is_among ns m ≡ false)

-- the least of some messages above the current one is the first of them after it in the view by number
pub follows : (shown : Shown) → IsShown shown → shown.order ≡ range_with_len 1 (length shown.order) → (ns : List ℕ) → All (IsMessageOf shown) ns → (k : ℕ) → 1 ≤ k → k ≤ length shown.rows
    → (least : Option ℕ) → IsLeastAbove k ns least → least ≡ find (λ n. is_among ns n) (after_message shown k)
follows shown valid by ns all k low high None least =
    let same = order_length shown valid in
    sym (after-none shown valid by (λ n. is_among ns n) k low (omega arith) least)
follows shown valid by ns all k low high (Some q) least =
    let same = order_length shown valid in
    let message = among-message shown ns q all least.1 in
    let within : q ≤ length shown.rows = message.1 in
    sym (after-found shown valid by (λ n. is_among ns n) k q low least.0 (omega arith) least.1 least.2)

-- nothing stands after no message
pub follows-none : (shown : Shown) → IsShown shown → (ns : List ℕ) (k : ℕ) → k ≡ 0 → None ≡ find (λ n. is_among ns n) (after_message shown k)
follows-none shown valid ns k zero = sym (after-nothing shown valid (λ n. is_among ns n) k (λ within. let low = within.0 in omega arith))
