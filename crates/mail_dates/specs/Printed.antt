-- The printed forms of a moment.
use Rattle.std.specs.Prelude.{ℕ, ◌+◌, ◌/◌, ◌%◌, List, [], ◌∷◌, ◌++◌, take, codes, nat_lt, if◌then◌else◌, ℤ, pos, ◌+ℤ◌, int_lt, unsigned_abs, int_div}
use Rattle.jiff_core.specs.Calendar.{weekday_number}
use Rattle.jiff_tz.specs.Year.{year_of_day}
use Rattle.mail_dates.specs.declared.moment.Moment.{Moment}
use Rattle.mail_dates.specs.Clock.{clock_seconds, day_number, second_of_day, month_of_day, day_of_month}
use Rattle.mail_dates.specs.Names.{day_name, month_name}

-- a number below 100 in two digits
abbrev pub two : ℕ → List ℕ
two n = (48 + n / 10) ∷ (48 + n % 10) ∷ []

-- a number below 100 in two places, with a space for a leading zero
abbrev pub two_places : ℕ → List ℕ
two_places n = if nat_lt n 10 then 32 ∷ (48 + n) ∷ [] else two n

-- a number below 10,000 in four digits
abbrev pub four : ℕ → List ℕ
four n = two (n / 100) ++ two (n % 100)

-- `hh:mm:ss` of the seconds since midnight
abbrev pub clock_text : ℕ → List ℕ
clock_text s = two (s / 3600) ++ codes ":" ++ two (s / 60 % 60) ++ codes ":" ++ two (s % 60)

-- `+hhmm` or `-hhmm` of minutes to the east
unfoldable pub zone_text : ℤ → List ℕ
zone_text minutes =
    (if int_lt minutes (pos 0) then 45 else 43) ∷ two (unsigned_abs minutes / 60) ++ two (unsigned_abs minutes % 60)

-- `Wed, 03 Jan 2024`: the day of the week from 0 for Monday, the day, the month and the year
unfoldable pub calendar_form : ℕ → ℕ → ℕ → ℕ → List ℕ
calendar_form weekday day month year =
    day_name weekday ++ codes ", " ++ two day ++ codes " " ++ month_name month ++ codes " " ++ four year

-- `Wed, 03 Jan 2024 00:00:00 +0000` (RFC 5322, section 3.3): the parts of `calendar_form`, the seconds since
-- midnight and the offset's minutes to the east
unfoldable pub date_form : ℕ → ℕ → ℕ → ℕ → ℕ → ℤ → List ℕ
date_form weekday day month year seconds minutes =
    calendar_form weekday day month year ++ codes " " ++ clock_text seconds ++ codes " " ++ zone_text minutes

-- `Wed Jan  3 00:00:00 2024`, the form of a From line
unfoldable pub from_date_form : ℕ → ℕ → ℕ → ℕ → ℕ → List ℕ
from_date_form weekday day month year seconds =
    day_name weekday ++ codes " " ++ month_name month ++ codes " " ++ two_places day ++ codes " "
    ++ clock_text seconds ++ codes " " ++ four year

-- the moment in the form of a `Date` field: what a clock at its offset shows, and the offset
abbrev pub date_text : Moment → List ℕ
date_text m =
    let s : ℤ = clock_seconds m in
    let day : ℤ = day_number s in
    date_form (weekday_number day) (day_of_month day) (month_of_day day) (unsigned_abs (year_of_day day))
    (second_of_day s) (int_div m.offset (pos 60))

-- the moment in the form of a From line: what a clock at its offset shows
abbrev pub from_date_text : Moment → List ℕ
from_date_text m =
    let s : ℤ = clock_seconds m in
    let day : ℤ = day_number s in
    from_date_form (weekday_number day) (day_of_month day) (month_of_day day)
    (unsigned_abs (year_of_day day)) (second_of_day s)

-- `Wed Jan  3 00:00`, without the seconds of the clock
unfoldable pub short_date_form : ℕ → ℕ → ℕ → ℕ → List ℕ
short_date_form weekday day month seconds =
    day_name weekday ++ codes " " ++ month_name month ++ codes " " ++ two_places day ++ codes " "
    ++ take 5 (clock_text seconds)

-- the moment in this form: what a clock at its offset shows, the offset's seconds too
abbrev pub short_date_text : Moment → List ℕ
short_date_text m =
    let s : ℤ = m.seconds +ℤ m.offset in
    let day : ℤ = day_number s in
    short_date_form (weekday_number day) (day_of_month day) (month_of_day day) (second_of_day s)
