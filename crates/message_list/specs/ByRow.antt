-- A view in which messages stand at the places of their rows.
use Rattle.std.specs.Prelude.{◌≡◌, ◌<◌, ◌≤◌, ℕ, Bool, true, false, List, length, slice_get}
use Rattle.std.specs.Option.{option_map_or}
use Rattle.std.specs.List.{range_with_len}
use Rattle.std.specs.declared.option.Option.{Option}
use Rattle.std.specs.declared.option.Option.TheVariants.{Some, None}
use Rattle.message_state.specs.declared.row.Row.{Row}
use Rattle.message_state.specs.declared.shown.Shown.{Shown}
use Rattle.message_list.specs.declared.list.Purpose.{Purpose}
use Rattle.message_list.specs.Places.{is_for}

-- the view is by number, and has as many places as there are rows
abbrev pub IsByRow : Shown → Type 0
IsByRow shown = shown.order ≡ range_with_len 1 (length shown.rows)

-- there is a row at place k, from 0, and its message is in the base set
abbrev pub row_is_for : Purpose → List Row → ℕ → Bool
row_is_for purpose rows k = option_map_or (λ row. is_for purpose row.mark) (slice_get rows k) false

-- the first row from here on whose message is in the base set, or none
abbrev pub IsNextFor : Purpose → List Row → ℕ → Option ℕ → Type 0
IsNextFor purpose rows from (Some q) = (from ≤ q) × (q < length rows) × (row_is_for purpose rows q ≡ true) × ((k : ℕ) → from ≤ k → k < q → row_is_for purpose rows k ≡ false)
IsNextFor purpose rows from None = (k : ℕ) → from ≤ k → row_is_for purpose rows k ≡ false

-- the last row before this place whose message is in the base set, or none
abbrev pub IsPreviousFor : Purpose → List Row → ℕ → Option ℕ → Type 0
IsPreviousFor purpose rows end (Some q) = (q < end) × (q < length rows) × (row_is_for purpose rows q ≡ true) × ((k : ℕ) → q < k → k < end → row_is_for purpose rows k ≡ false)
IsPreviousFor purpose rows end None = (k : ℕ) → k < end → row_is_for purpose rows k ≡ false
