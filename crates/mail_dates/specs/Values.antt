-- What the parts of a date mean: RFC 5322, sections 3.3 and 4.3.
use Rattle.std.specs.Prelude.{ℕ, ◌+◌, ◌-◌, ◌*◌, ◌/◌, ◌%◌, min, Bool, ◌&&◌, ◌==◌, nat_le, nat_lt, if◌then◌else◌, List, [], ◌∷◌, length, fold, codes, Option, None, Some, option_map, option_and_then, ℤ, pos, neg_ℤ, ◌+ℤ◌, ◌-ℤ◌, ◌*ℤ◌}
use Rattle.std.specs.Char.{is_ascii_digit}
use Rattle.std.specs.List.{list_all, list_any, position_from}
use Rattle.std.specs.Str.{bytes_eq}
use Rattle.jiff_core.specs.Calendar.{days_from_civil, days_in_month}
use Rattle.mail_text.specs.Ascii.{same_ascii}
use Rattle.mail_dates.specs.declared.moment.Moment.{Moment}
use Rattle.mail_dates.specs.Names.{day_names, month_names}

infixl 10 ◌>>=◌
abbrev pub ◌>>=◌ : {A B : Type 0} → Option A → (A → Option B) → Option B
o >>= f = option_and_then f o

-- the number that decimal digits write
abbrev pub decimal : List ℕ → ℕ
decimal text = fold (λ n b. n * 10 + (b - 48)) 0 text

-- the number that a text of this many decimal digits writes
unfoldable pub digits : ℕ → List ℕ → Option ℕ
digits count text =
    if (length text == count) && list_all is_ascii_digit text then Some (decimal text) else None

-- the day of a month has one or two digits
unfoldable pub day_value : List ℕ → Option ℕ
day_value text = if length text == 1 then digits 1 text else digits 2 text

-- the number of a month, from 1 for January; the case of ASCII letters is ignored
unfoldable pub month_value : List ℕ → Option ℕ
month_value text = option_map (λ k. k + 1) (position_from (λ name. same_ascii name text) 0 month_names)

-- the name of a day of the week; the case of ASCII letters is ignored
unfoldable pub is_day_name : List ℕ → Bool
is_day_name text = list_any (λ name. same_ascii name text) day_names

-- the year that two digits stand for: from 1950 to 2049
abbrev pub year_of_two : ℕ → ℕ
year_of_two n = if nat_lt n 50 then 2000 + n else 1900 + n

-- a year has four digits and isn't 0, or two, or three, which count from 1900 (RFC 5322, section 4.3)
unfoldable pub year_value : List ℕ → Option ℕ
year_value text =
    if length text == 2 then option_map year_of_two (digits 2 text)
    else (if length text == 3 then option_map (λ n. 1900 + n) (digits 3 text)
    else (digits 4 text >>= (λ n. if n == 0 then None else Some n)))

-- the day number of a date that the calendar has
unfoldable pub date_value : ℕ → ℕ → ℕ → Option ℤ
date_value year month day =
    if nat_le 1 day && nat_le day (days_in_month (pos year) month)
    then Some (days_from_civil (pos year) month day) else None

-- the seconds since midnight of an hour, a minute and a second of two digits each; second 60 counts as 59
unfoldable pub time_value : List ℕ → List ℕ → List ℕ → Option ℕ
time_value hour minute second = do
  h ← digits 2 hour
  m ← digits 2 minute
  s ← digits 2 second
  if nat_lt h 24 && nat_lt m 60 && nat_le s 60 then Some (h * 3600 + m * 60 + min s 59) else None

-- the zones of North America that have a word, with the hours that they are to the west of UTC
abbrev pub zone_words : List (List ℕ × ℕ)
zone_words =
    (codes "EST", 5) ∷ (codes "EDT", 4) ∷ (codes "CST", 6) ∷ (codes "CDT", 5)
    ∷ (codes "MST", 7) ∷ (codes "MDT", 6) ∷ (codes "PST", 8) ∷ (codes "PDT", 7) ∷ []

-- the hours that the first zone of that word is to the west of UTC; each other word counts as UTC
abbrev pub hours_behind : List (List ℕ × ℕ) → List ℕ → ℕ
hours_behind [] word = 0
hours_behind (zone ∷ zones) word = if bytes_eq zone.0 word then zone.1 else hours_behind zones word

-- the seconds to the east that a zone's word stands for; upper and lower case differ
unfoldable pub zone_word_value : List ℕ → ℤ
zone_word_value word = neg_ℤ (pos (hours_behind zone_words word * 3600))

-- the seconds of `hhmm`: at most 23 hours, and minutes below 60
unfoldable pub zone_digits_value : List ℕ → Option ℕ
zone_digits_value text = do
  n ← digits 4 text
  if nat_lt (n / 100) 24 && nat_lt (n % 100) 60 then Some (n / 100 * 3600 + n % 100 * 60) else None

-- the seconds to the east of a zone in digits with its sign: `-` is to the west
unfoldable pub zone_number_value : ℕ → List ℕ → Option ℤ
zone_number_value sign text =
    option_map (λ seconds. if sign == 45 then neg_ℤ (pos seconds) else pos seconds) (zone_digits_value text)

-- the moment at which a clock at the offset shows that time of that day
abbrev pub moment_of : ℤ → ℕ → ℤ → Moment
moment_of day time offset = record { seconds = day *ℤ pos 86_400 +ℤ pos time -ℤ offset; offset = offset }

-- the moment of a day, a time and an offset, if each is given
unfoldable pub moment_value : Option ℤ → Option ℕ → Option ℤ → Option Moment
moment_value day time offset = do
  d ← day
  t ← time
  z ← offset
  Some (moment_of d t z)
