-- The year, the month and the place in it of a day number are those of the date.
use Rattle.std.proofs.Common.{◌≡◌, ◌+◌, ◌∙◌, sym, rules, negsuc, ℕ, zero, suc, ◌-◌, ◌<◌, ◌≤◌, true, false, inl, inr, refl, ap, subst, arith, ℤ, pos, neg_ℤ, ◌+ℤ◌, ◌-ℤ◌, ◌*ℤ◌, ◌<ℤ◌, ◌≤ℤ◌, int_le, unsigned_abs}
use Rattle.std.proofs.lemmas.Int.{ints, by_lt_z}
use Rattle.std.proofs.lemmas.Bool.{cases_lt}
use Rattle.jiff_core.specs.declared.civil.date.Date.{Date}
use Rattle.jiff_core.specs.Calendar.{days_from_civil, day_count, days_of_years, days_of_months, days_in_month, weekday_number}
use Rattle.jiff_core.specs.Date.{epoch_day, weekday_of}
use Rattle.jiff_core.proofs.SignedLemmas.{signed_arith}
use Rattle.jiff_core.proofs.CalendarLemmas.{days_from_civil-day_count, day_count-lt_month, day_count-lt_year, day_count-day_of_year, day_count-later_year, days_in_month_bounds}
use Rattle.jiff_core.proofs.DateLemmas.{civil, days_from_civil-day, days_from_civil-next_month, days_from_civil-next_year, days_from_civil-max}
use Rattle.jiff_tz.specs.Year.{year_of_day}
use Rattle.jiff_tz.proofs.YearLemmas.{year_of_day-date}
use Rattle.jiff_core.specs.declared.civil.datetime.DateTime.{DateTime}
use Rattle.jiff_core.specs.DateTime.{civil_nanos}
use Rattle.jiff_core.specs.Time.{time_seconds}
use Rattle.jiff_core.proofs.DateTimeLemmas.{civil_nanos-parts}
use Rattle.mail_dates.specs.Laws.{HasDate}
use Rattle.mail_dates.specs.Clock.{month_within, month_of_day, day_of_month, day_number, second_of_day, IsDayInYears}

le_test : (a b : ℤ) → a ≤ℤ b → int_le a b ≡ true
le_test a b h = grind (arith, ints)

gt_test : (a b : ℤ) → b <ℤ a → int_le a b ≡ false
gt_test a b h = grind (arith, ints)

unsigned_abs-after : (a b : ℤ) (n : ℕ) → a ≡ b +ℤ pos n → unsigned_abs (a -ℤ b) ≡ n
unsigned_abs-after a b n e =
    let is : a -ℤ b ≡ pos n = omega (arith, signed_arith) in ap unsigned_abs is

-- the first day of the date's month isn't after the date
first_of_month : (d : Date) → days_from_civil d.year d.month 1 ≤ℤ epoch_day d
first_of_month d =
    let first = d.day_in.0 in
    let moved = days_from_civil-day d.year d.month 1 d.day (omega arith) first in
    omega (arith, signed_arith)

-- the first days of later months are
later_month : (d : Date) (m : ℕ) → d.month < m → epoch_day d <ℤ days_from_civil d.year m 1
later_month d m h =
    omega (arith, signed_arith, days_from_civil-day_count, day_count-lt_month d.year d.month d.day m 1 (civil d) (omega arith) h)

pub month_within-date : (d : Date) (n : ℕ) → d.month ≤ n → month_within n (epoch_day d) ≡ d.month
unfolding month_within
month_within-date d zero h = absurd (let low = d.month_in.0 in omega arith)
month_within-date d (suc n) h =
    rw (year_of_day-date d) (elim (cases_lt n d.month) [
      | inl last ↦
          let same : suc n ≡ d.month = omega arith in
          rw same (rw (le_test _ _ (first_of_month d)))
      | inr earlier ↦ rw (gt_test _ _ (later_month d (suc n) (omega arith))) (month_within-date d n earlier)
    ])

pub month_of_day-date : (d : Date) → month_of_day (epoch_day d) ≡ d.month
month_of_day-date d = month_within-date d 12 d.month_in.1

pub day_of_month-date : (d : Date) → day_of_month (epoch_day d) ≡ d.day
day_of_month-date d =
    rw (month_of_day-date d, year_of_day-date d) (
    let first = d.day_in.0 in
    let moved = days_from_civil-day d.year d.month 1 d.day (omega arith) first in
    rw (unsigned_abs-after (epoch_day d) (days_from_civil d.year d.month 1) (d.day - 1) (omega (arith, signed_arith))) (omega arith))

-- 1 January of the year 0
first_day_of_year_0 : days_from_civil (pos 0) 1 1 ≡ neg_ℤ (pos 719_528)
unfolding days_from_civil day_count days_of_years days_of_months
first_day_of_year_0 = refl

-- a day that isn't before 1 January of the year 0 lies in the year 0 or a later one
pub year_from_0 : (d : Date) → neg_ℤ (pos 719_528) ≤ℤ epoch_day d → pos 0 ≤ℤ d.year
year_from_0 d h =
    by_lt_z d.year (pos 0)
    (λ lt. absurd (omega (arith, signed_arith, days_from_civil-day_count, day_count-lt_year d.year d.month d.day (pos 0) 1 1 (civil d) (omega arith) lt, first_day_of_year_0)))
    (λ ge. ge)

-- 1 January of the year 1
first_day_of_year_1 : days_from_civil (pos 1) 1 1 ≡ neg_ℤ (pos 719_162)
unfolding days_from_civil day_count days_of_years days_of_months
first_day_of_year_1 = refl

pub year_from_1 : (d : Date) → neg_ℤ (pos 719_162) ≤ℤ epoch_day d → pos 1 ≤ℤ d.year
year_from_1 d h =
    by_lt_z d.year (pos 1)
    (λ lt. absurd (omega (arith, signed_arith, days_from_civil-day_count, day_count-lt_year d.year d.month d.day (pos 1) 1 1 (civil d) (omega arith) lt, first_day_of_year_1)))
    (λ ge. ge)

-- and a date of such a year isn't before that day
pub day_from_0 : (d : Date) → pos 0 ≤ℤ d.year → neg_ℤ (pos 719_528) ≤ℤ epoch_day d
day_from_0 d h =
    let in_year = day_count-day_of_year d.year d.month d.day d.day_in.0 in
    by_lt_z (pos 0) d.year
    (λ later. omega (arith, signed_arith, days_from_civil-day_count, day_count-later_year (pos 0) d.year (omega (arith, signed_arith)) later, first_day_of_year_0))
    (λ le. let same : d.year ≡ pos 0 = omega (arith, signed_arith) in
    let first : day_count d.year 1 1 ≡ day_count (pos 0) 1 1 = ap (λ y. day_count y 1 1) same in
    omega (arith, signed_arith, days_from_civil-day_count, first_day_of_year_0))

-- a clock at a whole second shows a date and a time of day that make up that second
second_parts : (dt : DateTime) (s : ℤ) → civil_nanos dt ≡ s *ℤ pos 1_000_000_000 → s ≡ epoch_day dt.date *ℤ pos 86_400 +ℤ pos (time_seconds dt.time)
second_parts dt s e = omega (arith, signed_arith, civil_nanos-parts dt)

pub day_number-shown : (dt : DateTime) (s : ℤ) → civil_nanos dt ≡ s *ℤ pos 1_000_000_000 → epoch_day dt.date ≡ day_number s
day_number-shown dt s e =
    let parts = second_parts dt s e in
    omega (arith, signed_arith)

pub second_of_day-shown : (dt : DateTime) (s : ℤ) → civil_nanos dt ≡ s *ℤ pos 1_000_000_000 → time_seconds dt.time ≡ second_of_day s
second_of_day-shown dt s e =
    let parts = second_parts dt s e in
    omega (arith, signed_arith)

-- the date with that day number has that day's form
pub day_form : {X : Type 0} (form : ℕ → ℕ → ℕ → ℕ → X) (d : Date) (day : ℤ) → epoch_day d ≡ day
    → form (weekday_of d) d.day d.month (unsigned_abs d.year) ≡ form (weekday_number day) (day_of_month day) (month_of_day day) (unsigned_abs (year_of_day day))
day_form form d day e =
    let P : ℤ → Type 0 = λ D. form (weekday_of d) d.day d.month (unsigned_abs d.year) ≡ form (weekday_number D) (day_of_month D) (month_of_day D) (unsigned_abs (year_of_day D)) in
    subst P e (rw (day_of_month-date d, month_of_day-date d, year_of_day-date d) refl)

-- each day from 1 January of the year 0 to 31 December 9999 has a date: the next day's date, again and again
first_date : Date
first_date = record { year = pos 0; month = 1; day = 1; year_in = search rules; month_in = search rules; day_in = search rules }

in_month : (d : Date) → d.day < days_in_month d.year d.month → (next : Date) × (epoch_day next ≡ epoch_day d +ℤ pos 1)
in_month d h =
    let low = d.day_in.0 in
    let moved = days_from_civil-day d.year d.month d.day (d.day + 1) low (omega arith) in (
      record { year = d.year; month = d.month; day = d.day + 1; year_in = d.year_in; month_in = d.month_in; day_in = (omega arith, omega arith) },
      omega (arith, signed_arith),
    )

month_end : (d : Date) → d.day ≡ days_in_month d.year d.month → d.month < 12 → (next : Date) × (epoch_day next ≡ epoch_day d +ℤ pos 1)
month_end d last h =
    let low = d.month_in.0 in
    let long = days_in_month_bounds d.year (d.month + 1) in (
      record { year = d.year; month = d.month + 1; day = 1; year_in = d.year_in; month_in = (omega arith, omega arith); day_in = (omega arith, omega arith) },
      days_from_civil-next_month d.year d.month d.day low last,
    )

year_end : (d : Date) → d.day ≡ days_in_month d.year d.month → d.month ≡ 12 → epoch_day d <ℤ pos 2_932_896 → (next : Date) × (epoch_day next ≡ epoch_day d +ℤ pos 1)
year_end d last december h =
    let thirty_one : d.day ≡ 31 = rw december at last in
    let here : epoch_day d ≡ days_from_civil d.year 12 31 = rw (december, thirty_one) refl in
    by_lt_z d.year (pos 9999)
    (λ earlier. let low = d.year_in.0 in (
      record { year = d.year +ℤ pos 1; month = 1; day = 1; year_in = (omega (arith, signed_arith), omega (arith, signed_arith)); month_in = search rules; day_in = search rules },
      days_from_civil-next_year d.year (d.year +ℤ pos 1) (omega (arith, signed_arith)) refl ∙ ap (λ day. day +ℤ pos 1) (sym here),
    ))
    (λ late. absurd (let high = d.year_in.1 in
    let year : d.year ≡ pos 9999 = omega (arith, signed_arith) in
    let end : epoch_day d ≡ pos 2_932_896 = here ∙ ap (λ y. days_from_civil y 12 31) year ∙ days_from_civil-max in
    omega (arith, signed_arith)))

next_day : (d : Date) → epoch_day d <ℤ pos 2_932_896 → (next : Date) × (epoch_day next ≡ epoch_day d +ℤ pos 1)
next_day d h =
    elim (cases_lt d.day (days_in_month d.year d.month)) [
      | inl before ↦ in_month d before
      | inr at_end ↦
          let last : d.day ≡ days_in_month d.year d.month = (let high = d.day_in.1 in omega arith) in
          elim (cases_lt d.month 12) [
            | inl month ↦ month_end d last month
            | inr december ↦ year_end d last (let high = d.month_in.1 in omega arith) h
          ]
    ]

days_on : (n : ℕ) → n ≤ 3_652_424 → (d : Date) × (epoch_day d +ℤ pos 719_528 ≡ pos n)
unfolding first_date
days_on zero h = (first_date, omega (arith, signed_arith, first_day_of_year_0))
days_on (suc n) h =
    let before = days_on n (omega arith) in
    let next = next_day before.0 (let is = before.1 in omega (arith, signed_arith)) in
    (next.0, (let is = before.1 in let more = next.1 in omega (arith, signed_arith)))

nonnegative : (z : ℤ) → pos 0 ≤ℤ z → pos (unsigned_abs z) ≡ z
nonnegative (pos n) h = refl
nonnegative (negsuc n) h = absurd (omega (arith, signed_arith))

pub date_of_day : (day : ℤ) → IsDayInYears day → (d : Date) × (epoch_day d ≡ day)
date_of_day day h =
    let n : ℕ = unsigned_abs (day +ℤ pos 719_528) in
    let is : pos n ≡ day +ℤ pos 719_528 = nonnegative (day +ℤ pos 719_528) (omega (arith, signed_arith)) in
    let found = days_on n (omega (arith, signed_arith)) in
    (found.0, (let e = found.1 in omega (arith, signed_arith)))

pub day_has_date : (day : ℤ) → IsDayInYears day → HasDate day
day_has_date day h =
    let found = date_of_day day h in
    let P : ℤ → Type 0 = HasDate in
    subst P found.1 (rw (day_of_month-date found.0, month_of_day-date found.0, year_of_day-date found.0) (civil found.0, refl))

-- what is known of one second is known of an equal one
pub same_day : (n a b : ℤ) → n ≡ day_number a → a ≡ b → n ≡ day_number b
same_day n a b h e = rw (← e) h

pub same_second : (n : ℕ) (a b : ℤ) → n ≡ second_of_day a → a ≡ b → n ≡ second_of_day b
same_second n a b h e = rw (← e) h
