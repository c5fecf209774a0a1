-- A part at the front of a list of parts, and the parts after it.
use Rattle.std.specs.Prelude.{◌≢◌, ℕ, if◌then◌else◌, List, [], ◌∷◌, codes, Option, None, Some, option_map, ℤ}
use Rattle.std.specs.Borrow.{Bor}
use Rattle.mail_dates.specs.Parts.{Part, Number, Word, Signed, Comma, Colon, date_parts}
use Rattle.mail_dates.specs.Values.{◌>>=◌, is_day_name, time_value}
use Rattle.mail_dates.specs.DateFields.{written_date, zone_value}

-- the text begins with no blank and no comment
abbrev pub IsAtPart : List ℕ → Type 0
IsAtPart [] = Unit {0}
IsAtPart (b ∷ bs) = (b ≢ 32) × (b ≢ 9) × (b ≢ 40)

abbrev pub number_first : List Part → Option (List ℕ × List Part)
number_first (Number text ∷ parts) = Some (text, parts)
number_first parts = None

abbrev pub word_first : List Part → Option (List ℕ × List Part)
word_first (Word text ∷ parts) = Some (text, parts)
word_first parts = None

abbrev pub signed_first : List Part → Option (ℕ × List ℕ × List Part)
signed_first (Signed sign text ∷ parts) = Some (sign, text, parts)
signed_first parts = None

abbrev pub comma_first : List Part → Option (List Part)
comma_first (Comma ∷ parts) = Some parts
comma_first parts = None

abbrev pub colon_first : List Part → Option (List Part)
colon_first (Colon ∷ parts) = Some parts
colon_first parts = None

-- the parts after a day's name and its comma, if the first part is a name with a comma
abbrev pub after_day_name : List Part → Option (List Part)
after_day_name (Word name ∷ Comma ∷ parts) = if is_day_name name then Some parts else None
after_day_name parts = Some parts

-- the day number of a day, a month and a year
unfoldable pub calendar_first : List Part → Option (ℤ × List Part)
calendar_first parts = do
  day ← number_first parts
  month ← word_first day.1
  year ← number_first month.1
  date ← written_date year.0 month.0 day.0
  Some (date, year.1)

-- what may follow a minute: a colon and a second
abbrev pub clock_end : List ℕ → List ℕ × List Part → Option (List Part) → Option (ℕ × List Part)
clock_end hour minute None = time_value hour minute.0 (codes "00") >>= (λ time. Some (time, minute.1))
clock_end hour minute (Some parts) = do
  second ← number_first parts
  time ← time_value hour minute.0 second.0
  Some (time, second.1)

-- the seconds since midnight of an hour, a colon, a minute and perhaps a second
unfoldable pub clock_first : List Part → Option (ℕ × List Part)
clock_first parts = do
  hour ← number_first parts
  minutes ← colon_first hour.1
  minute ← number_first minutes
  clock_end hour.0 minute (colon_first minute.1)

-- the zone, if it is the only part
abbrev pub zone_last : List Part → Option ℤ
zone_last (zone ∷ []) = zone_value zone
zone_last parts = None

-- what a function read, with the parts of the text after it
abbrev pub value_view : {A : Type 0} → Option (A × Bor (List ℕ)) → Option (A × List Part)
value_view r = option_map (λ p. (p.0, date_parts p.1.now)) r

abbrev pub part_view : Option (Bor (List ℕ) × Bor (List ℕ)) → Option (List ℕ × List Part)
part_view r = option_map (λ p. (p.0.now, date_parts p.1.now)) r

abbrev pub signed_view : Option (ℕ × Bor (List ℕ) × Bor (List ℕ)) → Option (ℕ × List ℕ × List Part)
signed_view r = option_map (λ p. (p.0, p.1.now, date_parts p.2.now)) r

abbrev pub rest_view : Option (Bor (List ℕ)) → Option (List Part)
rest_view r = option_map (λ rest. date_parts rest.now) r
