-- The parent of a message: which message it answers (RFC 5322, section 3.6.4). Messages are numbered from 1, and 0 stands
-- for none.
use Rattle.std.specs.Prelude.{ℕ, ◌+◌, ◌-◌, Bool, not, ◌||◌, ◌==◌, List, reverse, slice_get, position, Option, None, if◌then◌else◌}
use Rattle.std.specs.Option.{option_map_or, option_or, option_and_then}
use Rattle.std.specs.List.{find}
use Rattle.std.specs.Str.{bytes_eq}
use Rattle.message_state.specs.declared.row.Row.{Row}

-- the row of message k, if there is one
abbrev pub row_at : List Row → ℕ → Option Row
row_at rows k = if k == 0 then None else slice_get rows (k - 1)

-- the message that an id names: the least one with that own id
abbrev pub named : List Row → List ℕ → ℕ
named rows id = option_map_or (λ p. p + 1) (position (λ row. bytes_eq row.texts.own_id id) rows) 0

-- the id names another message than k
abbrev pub names_another : List Row → ℕ → List ℕ → Bool
names_another rows k id = not (named rows id == 0 || named rows id == k)

-- the id by which message k names its parent: the last of `References` that names another message, else the first of
-- `In-Reply-To` that does
abbrev pub answered : List Row → ℕ → Row → Option (List ℕ)
answered rows k row = option_or (find (names_another rows k) (reverse row.references)) (find (names_another rows k) row.reply)

-- the parent of message k
abbrev pub parent_of : List Row → ℕ → ℕ
parent_of rows k = option_map_or (named rows) (option_and_then (answered rows k) (row_at rows k)) 0
