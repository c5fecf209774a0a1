-- What holds of every row.
use Rattle.std.specs.Prelude.{◌≡◌, ℕ, List}
use Rattle.message_state.specs.declared.row.Row.{Row}
use Rattle.message_state.specs.Rows.{IsRow}

-- a text has one row
abbrev pub OneRow : Type 0
OneRow = (t : List ℕ) (r s : Row) → IsRow t r → IsRow t s → r ≡ s

-- each text has a row
abbrev pub SomeRow : Type 0
SomeRow = (t : List ℕ) → (row : Row) × IsRow t row
