-- Laws about the definitions of this crate.
use Rattle.std.specs.Prelude.{◌≡◌, ◌<◌, ◌&&◌, nat_le, ℕ, not, true, List, length, ◌++◌, codes, Some, ℤ, pos}
use Rattle.std.specs.List.{list_all}
use Rattle.jiff_core.specs.Calendar.{days_from_civil, IsCivilDate}
use Rattle.jiff_tz.specs.Year.{year_of_day}
use Rattle.mail_dates.specs.declared.moment.Moment.{Moment}
use Rattle.mail_dates.specs.Clock.{in_whole_minutes, clock_seconds, month_of_day, day_of_month}
use Rattle.mail_dates.specs.Printed.{date_text, from_date_text, short_date_text}
use Rattle.mail_dates.specs.DateFields.{date_of}
use Rattle.mail_dates.specs.FromLines.{sender_of, arrival_of}
use Rattle.mail_text.specs.Ascii.{is_blank}

-- the moment with its offset in whole minutes
abbrev pub with_whole_minutes : Moment → Moment
with_whole_minutes m = record { seconds = m.seconds; offset = in_whole_minutes m.offset }

-- the printed date of the moment reads as the moment, in whole minutes of its offset
abbrev pub ReadsBack : Moment → Type 0
ReadsBack m = date_of (date_text m) ≡ Some (with_whole_minutes m)

-- the calendar has the year, month and day of a day number, and they have that day number
abbrev pub HasDate : ℤ → Type 0
HasDate day =
    IsCivilDate (year_of_day day) (month_of_day day) (day_of_month day)
    × (days_from_civil (year_of_day day) (month_of_day day) (day_of_month day) ≡ day)

-- bytes without a blank, at least one
abbrev pub IsWord : List ℕ → Type 0
IsWord word = (0 < length word) × (list_all (λ b. not (is_blank b)) word ≡ true)

-- what a clock at the moment's offset shows, taken as UTC
abbrev pub as_shown : Moment → Moment
as_shown m = record { seconds = clock_seconds m; offset = pos 0 }

-- a From line with the sender and the printed date of the moment reads as the sender and what the clock shows
abbrev pub ArrivalReadsBack : List ℕ → Moment → Type 0
ArrivalReadsBack sender m =
    let line : List ℕ = sender ++ codes " " ++ from_date_text m in
    (sender_of line ≡ sender) × (arrival_of line ≡ Some (as_shown m))

-- printable ASCII, and so a text of one line
abbrev pub IsPlain : List ℕ → Type 0
IsPlain text = list_all (λ b. nat_le 32 b && nat_le b 126) text ≡ true

-- the printed date has 31 bytes of printable ASCII
abbrev pub IsPlainDate : Moment → Type 0
IsPlainDate m = IsPlain (date_text m) × (length (date_text m) ≡ 31)

-- the printed date of a From line has 24
abbrev pub IsPlainFromDate : Moment → Type 0
IsPlainFromDate m = IsPlain (from_date_text m) × (length (from_date_text m) ≡ 24)

-- the short form of the moment has 16
abbrev pub IsPlainShortDate : Moment → Type 0
IsPlainShortDate m = IsPlain (short_date_text m) × (length (short_date_text m) ≡ 16)
