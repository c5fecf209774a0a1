-- Moments, and what a clock at a moment's offset shows, by the proleptic Gregorian calendar.
use Rattle.std.specs.Prelude.{ℕ, zero, suc, ◌+◌, ℤ, pos, neg_ℤ, ◌+ℤ◌, ◌-ℤ◌, ◌*ℤ◌, if◌then◌else◌, unsigned_abs, int_div, int_le}
use Rattle.std.specs.Int.{int_div_euclid, int_rem_euclid}
use Rattle.jiff_core.specs.Calendar.{days_from_civil, IsBetween, IsWithin}
use Rattle.jiff_tz.specs.Year.{year_of_day}
use Rattle.mail_dates.specs.declared.moment.Moment.{Moment}

-- the moment lies from 2 January 1970 to 30 December 9999 in UTC, so that its year has four digits at
-- any offset, and its offset is below 26 hours
abbrev pub IsPrintable : Moment → Type 0
IsPrintable m = IsBetween (pos 86_400) (pos 253_402_128_000) m.seconds × IsWithin 93_599 m.offset

-- a day from 1 January of the year 0 to 31 December 9999
abbrev pub IsDayInYears : ℤ → Type 0
IsDayInYears day = IsBetween (neg_ℤ (pos 719_528)) (pos 2_932_896) day

-- what a clock at the moment's offset shows lies in the years 0 to 9999, and the offset is below 24 hours
abbrev pub IsInYears : Moment → Type 0
IsInYears m =
    IsBetween (neg_ℤ (pos 62_167_219_200)) (pos 253_402_300_799) (m.seconds +ℤ m.offset)
    × IsWithin 86_399 m.offset

-- an offset in whole minutes, its seconds cut toward zero; given in seconds
abbrev pub in_whole_minutes : ℤ → ℤ
in_whole_minutes offset = int_div offset (pos 60) *ℤ pos 60

-- the seconds since 1970 that a clock at the offset shows
abbrev pub clock_seconds : Moment → ℤ
clock_seconds m = m.seconds +ℤ in_whole_minutes m.offset

-- the day number of what a clock shows: 0 for 1 January 1970
abbrev pub day_number : ℤ → ℤ
day_number seconds = int_div_euclid seconds (pos 86_400)

-- the seconds since midnight
abbrev pub second_of_day : ℤ → ℕ
second_of_day seconds = unsigned_abs (int_rem_euclid seconds (pos 86_400))

-- the last month, at most n, that begins on the day or before it
unfoldable pub month_within : ℕ → ℤ → ℕ
month_within zero day = 0
month_within (suc n) day =
    if int_le (days_from_civil (year_of_day day) (suc n) 1) day then suc n else month_within n day

-- the month of a day number, from 1 for January
abbrev pub month_of_day : ℤ → ℕ
month_of_day day = month_within 12 day

-- the place of a day in its month, from 1
abbrev pub day_of_month : ℤ → ℕ
day_of_month day =
    unsigned_abs (day -ℤ days_from_civil (year_of_day day) (month_of_day day) 1) + 1
