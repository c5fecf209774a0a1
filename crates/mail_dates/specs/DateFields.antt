-- The date of a `Date` field: RFC 5322, sections 3.3 and 4.3.
use Rattle.std.specs.Prelude.{ℕ, if◌then◌else◌, List, [], ◌∷◌, codes, Option, None, Some, ℤ}
use Rattle.mail_dates.specs.declared.moment.Moment.{Moment}
use Rattle.mail_dates.specs.Parts.{Part, Number, Word, Signed, Comma, Colon, date_parts}
use Rattle.mail_dates.specs.Values.{◌>>=◌, day_value, month_value, is_day_name, year_value, date_value, time_value, zone_word_value, zone_number_value, moment_value}

-- the day number of a year, a month and a day as they are written
abbrev pub written_date : List ℕ → List ℕ → List ℕ → Option ℤ
written_date year month day = do
  y ← year_value year
  m ← month_value month
  d ← day_value day
  date_value y m d

-- zone = ( "+" / "-" ) 4DIGIT / a word
abbrev pub zone_value : Part → Option ℤ
zone_value (Word word) = Some (zone_word_value word)
zone_value (Signed sign text) = zone_number_value sign text
zone_value part = None

-- time = hour ":" minute [ ":" second ] zone, and nothing after it
unfoldable pub time : Option ℤ → List Part → Option Moment
time day (Number hour ∷ Colon ∷ Number minute ∷ Colon ∷ Number second ∷ zone ∷ []) =
    moment_value day (time_value hour minute second) (zone_value zone)
time day (Number hour ∷ Colon ∷ Number minute ∷ zone ∷ []) =
    moment_value day (time_value hour minute (codes "00")) (zone_value zone)
time day parts = None

-- date = day month year
unfoldable pub date : List Part → Option Moment
date (Number day ∷ Word month ∷ Number year ∷ parts) = time (written_date year month day) parts
date parts = None

-- date-time = [ day-name "," ] date time
unfoldable pub date_time : List Part → Option Moment
date_time (Word name ∷ Comma ∷ parts) = if is_day_name name then date parts else None
date_time parts = date parts

-- the moment of a date's text
abbrev pub date_of : List ℕ → Option Moment
date_of text = date_time (date_parts text)
