-- The messages of a view and their places in it.
use Rattle.std.specs.Prelude.{ℕ, ◌+◌, ◌-◌, Bool, true, false, not, ◌==◌, List, [], reverse, take, drop, slice_get, position, Option, None, if◌then◌else◌}
use Rattle.std.specs.Option.{option_map_or}
use Rattle.std.specs.List.{find}
use Rattle.message_state.specs.declared.mark.Mark.{Mark}
use Rattle.message_state.specs.declared.row.Row.{Row}
use Rattle.message_state.specs.declared.shown.Shown.{Shown}
use Rattle.message_state.specs.LiveRows.{is_live}
use Rattle.message_list.specs.declared.list.Purpose.{Purpose}
use Rattle.message_list.specs.declared.list.Purpose.TheVariants.{Live, Dead, Any}

-- the row of message n, if there is one: messages are numbered from 1
abbrev pub row_at : Shown → ℕ → Option Row
row_at shown n = if n == 0 then None else slice_get shown.rows (n - 1)

-- there is a message n, and its row passes
abbrev pub row_passes : (Row → Bool) → Shown → ℕ → Bool
row_passes test shown n = option_map_or test (row_at shown n) false

-- what a list selects from: the messages that aren't deleted, the deleted ones, or all
abbrev pub is_for : Purpose → Mark → Bool
is_for Live mark = is_live mark
is_for Dead mark = not (is_live mark)
is_for Any mark = true

-- message n is in the base set
abbrev pub in_base : Shown → Purpose → ℕ → Bool
in_base shown purpose n = row_passes (λ row. is_for purpose row.mark) shown n

-- the place of message n in the view, from 0
abbrev pub place_of : Shown → ℕ → Option ℕ
place_of shown n = position (λ m. m == n) shown.order

-- the messages after message n in the view; none if it isn't there
abbrev pub after_message : Shown → ℕ → List ℕ
after_message shown n = option_map_or (λ p. drop (p + 1) shown.order) (place_of shown n) []

-- the messages before message n in the view, the nearest first; none if it isn't there
abbrev pub before_message : Shown → ℕ → List ℕ
before_message shown n = option_map_or (λ p. reverse (take p shown.order)) (place_of shown n) []

-- message n and those before it in the view, the nearest first; none if it isn't there
abbrev pub back_from : Shown → ℕ → List ℕ
back_from shown n = option_map_or (λ p. reverse (take (p + 1) shown.order)) (place_of shown n) []

-- the first message of the base set in the view, and the last
abbrev pub first_of : Shown → Purpose → Option ℕ
first_of shown purpose = find (in_base shown purpose) shown.order

abbrev pub last_of : Shown → Purpose → Option ℕ
last_of shown purpose = find (in_base shown purpose) (reverse shown.order)

-- the next message of the base set after message n in the view, and the previous one before it
abbrev pub next_of : Shown → Purpose → ℕ → Option ℕ
next_of shown purpose n = find (in_base shown purpose) (after_message shown n)

abbrev pub previous_of : Shown → Purpose → ℕ → Option ℕ
previous_of shown purpose n = find (in_base shown purpose) (before_message shown n)
