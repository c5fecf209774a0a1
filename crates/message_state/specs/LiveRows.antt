-- Rows whose messages are deleted, and rows whose messages aren't.
use Rattle.std.specs.Prelude.{◌≡◌, ◌<◌, ◌≤◌, ℕ, ◌/◌, Bool, true, false, not, ◌==◌, List, length, slice_get, slice_set, unwrap_or}
use Rattle.std.specs.Option.{option_map_or}
use Rattle.std.specs.declared.option.Option.{Option}
use Rattle.std.specs.declared.option.Option.TheVariants.{Some, None}
use Rattle.message_state.specs.declared.mark.State.TheVariants.{Deleted}
use Rattle.message_state.specs.declared.mark.Standing.{Standing}
use Rattle.message_state.specs.declared.mark.Standing.TheVariants.{Live, Dead}
use Rattle.message_state.specs.declared.mark.Mark.{Mark}
use Rattle.message_state.specs.declared.row.Row.{Row}
use Rattle.message_state.specs.States.{place}

-- the message of a mark isn't deleted
abbrev pub is_live : Mark → Bool
is_live mark = not (place mark.state == place Deleted)

-- a message of this mark stands so
abbrev pub stands : Standing → Mark → Bool
stands Live mark = is_live mark
stands Dead mark = not (is_live mark)

-- there is a row at place k, from 0, and its message stands so
abbrev pub stands_at : Standing → List Row → ℕ → Bool
stands_at standing rows k = option_map_or (λ row. stands standing row.mark) (slice_get rows k) false

-- there is a row at place k, from 0, and its message isn't deleted
abbrev pub live_at : List Row → ℕ → Bool
live_at rows k = stands_at Live rows k

-- the rows with another mark at place k, if there is such a row
abbrev pub marked : List Row → ℕ → Mark → List Row
marked rows k mark = option_map_or (λ row. slice_set rows k (record row { mark = mark })) (slice_get rows k) rows

-- how many rows a block has
abbrev pub block_size : ℕ
block_size = 1024

-- the flag of a block, false if there is none
abbrev pub flag_at : List Bool → ℕ → Bool
flag_at flags block = unwrap_or (slice_get flags block) false

-- no row of a flagged block stands so
abbrev pub AreWithout : Standing → List Bool → List Row → Type 0
AreWithout standing flags rows = (k : ℕ) → flag_at flags (k / block_size) ≡ true → stands_at standing rows k ≡ false

-- The block of place k was looked at: its flag is set only if no row of it stands so, and the other flags are as they were.
pub record IsLookedAt (standing : Standing) (rows : List Row) (k : ℕ) (before now : List Bool) : Type 0 where
  pub here : (j : ℕ) → j / block_size ≡ k / block_size → flag_at now (k / block_size) ≡ true → stands_at standing rows j ≡ false
  pub others : (block : ℕ) → (block ≡ k / block_size → ⊥) → flag_at now block ≡ true → flag_at before block ≡ true

-- the first place from here on where a message stands so, or none
abbrev pub IsNext : Standing → List Row → ℕ → Option ℕ → Type 0
IsNext standing rows from (Some q) = (from ≤ q) × (q < length rows) × (stands_at standing rows q ≡ true) × ((k : ℕ) → from ≤ k → k < q → stands_at standing rows k ≡ false)
IsNext standing rows from None = (k : ℕ) → from ≤ k → stands_at standing rows k ≡ false

-- the last place before this one where a message stands so, or none
abbrev pub IsPrevious : Standing → List Row → ℕ → Option ℕ → Type 0
IsPrevious standing rows end (Some q) = (q < end) × (q < length rows) × (stands_at standing rows q ≡ true) × ((k : ℕ) → q < k → k < end → stands_at standing rows k ≡ false)
IsPrevious standing rows end None = (k : ℕ) → k < end → stands_at standing rows k ≡ false
