-- A day as a criterion has it: `2-Jan-2024`.
use Rattle.std.specs.Prelude.{ℕ, ◌-◌, Bool, ◌==◌, ◌&&◌, List, length, take, drop, slice_index, slice_range, Option, None, ℤ, if◌then◌else◌}
use Rattle.mail_dates.specs.DateFields.{written_date}

-- the bytes are nine, with a dash before the month and one before the year: `-Jan-2024`
abbrev pub has_dashes : List ℕ → Bool
has_dashes end = length end == 9 && slice_index end 0 == 45 && slice_index end 4 == 45

-- the day number of a day and what follows it
abbrev pub day_before : List ℕ → List ℕ → Option ℤ
day_before day end = if has_dashes end then written_date (drop 5 end) (slice_range end 1 4) day else None

-- the day number of `day-month-year`: one or two digits, three letters in either case, and four digits, for a day that exists
abbrev pub day_written : List ℕ → Option ℤ
day_written text = day_before (take (length text - 9) text) (drop (length text - 9) text)
