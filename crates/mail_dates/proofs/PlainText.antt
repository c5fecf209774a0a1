-- The printed forms are printable ASCII of a fixed length.
use Rattle.std.proofs.Common.{◌≡◌, ◌==◌, ◌&&◌, ℕ, ◌+◌, ◌/◌, ◌%◌, ◌<◌, Bool, true, nat_le, length, inl, inr, refl, arith, ℤ, unsigned_abs, length-append}
use Rattle.std.proofs.lemmas.Bool.{agree_below_at, eqb-true, cases_lt, lt-ltb, le-ltb}
use Rattle.std.proofs.lemmas.Bool.Decides.{nat_tests}
use Rattle.std.proofs.lemmas.List.Folds.{list_all-append}
use Rattle.std.specs.Char.{is_ascii_digit, is_ascii_alphabetic}
use Rattle.std.specs.List.{list_all}
use Rattle.mail_dates.specs.declared.moment.Moment.{Moment}
use Rattle.mail_dates.specs.Clock.{IsPrintable}
use Rattle.mail_dates.specs.Laws.{IsPlainDate, IsPlainFromDate}
use Rattle.jiff_core.specs.declared.civil.date.Date.{Date}
use Rattle.jiff_core.specs.Date.{epoch_day, weekday_of}
use Rattle.jiff_core.proofs.SignedLemmas.{signed_arith}
use Rattle.jiff_core.proofs.CalendarLemmas.{weekday_number_bound, days_in_month_bounds}
use Rattle.mail_dates.specs.Clock.{IsInYears, day_number, second_of_day}
use Rattle.mail_dates.specs.Laws.{IsPlainShortDate}
use Rattle.mail_dates.specs.Printed.{clock_text, short_date_form}
use Rattle.mail_dates.proofs.CivilDays.{day_form, date_of_day}
use Rattle.std.proofs.Common.{take, ◌-◌, sym, ◌+ℤ◌}
use Rattle.mail_dates.proofs.ShownParts.{shown}
use Rattle.mail_dates.specs.Names.{day_name, month_name}
use Rattle.mail_dates.specs.Printed.{two, two_places, zone_text, calendar_form, date_form, from_date_form}
use Rattle.mail_dates.proofs.PartLemmas.{all_as}
use Rattle.mail_dates.proofs.RoundTrip.{run_from_test, day_is_word, month_is_word, run_of_two}

abbrev is_plain : ℕ → Bool
is_plain b = nat_le 32 b && nat_le b 126

plain_digit : (b : ℕ) → is_ascii_digit b ≡ true → is_plain b ≡ true
plain_digit b h = grind (arith, nat_tests)

plain_letter : (b : ℕ) → is_ascii_alphabetic b ≡ true → is_plain b ≡ true
plain_letter b h = grind (arith, nat_tests)

-- names have three letters
name_length : (weekday : ℕ) → weekday < 7 → length (day_name weekday) ≡ 3
unfolding day_name
name_length weekday h = eqb-true _ 3 (agree_below_at (λ w. length (day_name w) == 3) (λ _. true) 7 weekday refl h)

month_length : (place : ℕ) → place < 12 → length (month_name (place + 1)) ≡ 3
unfolding month_name
month_length place h = eqb-true _ 3 (agree_below_at (λ k. length (month_name (k + 1)) == 3) (λ _. true) 12 place refl h)

plain_name : (weekday : ℕ) → weekday < 7 → list_all is_plain (day_name weekday) ≡ true
plain_name weekday h = let run = run_from_test is_ascii_alphabetic (day_name weekday) (day_is_word weekday h) in all_as is_ascii_alphabetic is_plain plain_letter (day_name weekday) run.all

plain_month : (place : ℕ) → place < 12 → list_all is_plain (month_name (place + 1)) ≡ true
plain_month place h =
    let run = run_from_test is_ascii_alphabetic (month_name (place + 1)) (month_is_word place h) in all_as is_ascii_alphabetic is_plain plain_letter (month_name (place + 1)) run.all

plain_two : (n : ℕ) → n < 100 → list_all is_plain (two n) ≡ true
plain_two n h = let run = run_of_two n h in all_as is_ascii_digit is_plain plain_digit (two n) run.all

plain_zone : (minutes : ℤ) → unsigned_abs minutes < 6000 → list_all is_plain (zone_text minutes) ≡ true
unfolding zone_text
plain_zone minutes h = grind (arith, nat_tests)

plain_places : (n : ℕ) → n < 100 → list_all is_plain (two_places n) ≡ true
plain_places n h =
    elim (cases_lt n 10) [
      | inl small ↦ rw (lt-ltb n 10 small) (grind (arith, nat_tests))
      | inr large ↦ rw (le-ltb n 10 large) (plain_two n h)
    ]

places_length : (n : ℕ) → length (two_places n) ≡ 2
places_length n =
    elim (cases_lt n 10) [ inl small ↦ rw (lt-ltb n 10 small) refl | inr large ↦ rw (le-ltb n 10 large) refl ]

zone_length : (minutes : ℤ) → length (zone_text minutes) ≡ 5
unfolding zone_text
zone_length minutes = refl

plain_form : (weekday day place year s : ℕ) (minutes : ℤ) → weekday < 7 → day < 100 → place < 12 → year < 10000 → s < 86400 → unsigned_abs minutes < 6000
    → (list_all is_plain (date_form weekday day (place + 1) year s minutes) ≡ true) × (length (date_form weekday day (place + 1) year s minutes) ≡ 31)
unfolding date_form calendar_form
plain_form weekday day place year s minutes w d p y t z = (
  simp list_all-append
      (rw (
        plain_name weekday w,
        plain_two day d,
        plain_month place p,
        plain_two (year / 100) (omega arith),
        plain_two (year % 100) (omega arith),
        plain_two (s / 3600) (omega arith),
        plain_two (s / 60 % 60) (omega arith),
        plain_two (s % 60) (omega arith),
        plain_zone minutes z,
      ) refl),
  simp length-append (rw (name_length weekday w, month_length place p, zone_length minutes) refl),
)

plain_from_form : (weekday day place year s : ℕ) → weekday < 7 → day < 100 → place < 12 → year < 10000 → s < 86400
    → (list_all is_plain (from_date_form weekday day (place + 1) year s) ≡ true) × (length (from_date_form weekday day (place + 1) year s) ≡ 24)
unfolding from_date_form
plain_from_form weekday day place year s w d p y t = (
  simp list_all-append
      (rw (
        plain_name weekday w,
        plain_places day d,
        plain_month place p,
        plain_two (year / 100) (omega arith),
        plain_two (year % 100) (omega arith),
        plain_two (s / 3600) (omega arith),
        plain_two (s / 60 % 60) (omega arith),
        plain_two (s % 60) (omega arith),
      ) refl),
  simp length-append (rw (name_length weekday w, month_length place p, places_length day) refl),
)

pub date_is_plain : (m : Moment) → IsPrintable m → IsPlainDate m
date_is_plain m range =
    let parts = shown m range in
    rw parts.date (plain_form parts.weekday parts.day parts.place parts.year _ _ parts.weekday_in parts.day_in parts.place_in parts.year_in parts.time_in parts.zone_in)

pub from_date_is_plain : (m : Moment) → IsPrintable m → IsPlainFromDate m
from_date_is_plain m range =
    let parts = shown m range in
    rw parts.from_date (plain_from_form parts.weekday parts.day parts.place parts.year _ parts.weekday_in parts.day_in parts.place_in parts.year_in parts.time_in)

plain_hour_minute : (s : ℕ) → s < 86400 → list_all is_plain (take 5 (clock_text s)) ≡ true
plain_hour_minute s h = grind (arith, nat_tests)

plain_short_form : (weekday day place s : ℕ) → weekday < 7 → day < 100 → place < 12 → s < 86400
    → (list_all is_plain (short_date_form weekday day (place + 1) s) ≡ true) × (length (short_date_form weekday day (place + 1) s) ≡ 16)
unfolding short_date_form
plain_short_form weekday day place s w d p t = (
  simp list_all-append (rw (plain_name weekday w, plain_month place p, plain_places day d, plain_hour_minute s t) refl),
  simp length-append (rw (name_length weekday w, month_length place p, places_length day) refl),
)

short_by : (m : Moment) (d : Date) → epoch_day d ≡ day_number (m.seconds +ℤ m.offset) → IsPlainShortDate m
short_by m d e =
    let s : ℕ = second_of_day (m.seconds +ℤ m.offset) in
    let place : d.month - 1 + 1 ≡ d.month = (let low = d.month_in.0 in omega arith) in
    let form = plain_short_form (weekday_of d) d.day (d.month - 1) s (weekday_number_bound (epoch_day d))
    (let last = d.day_in.1 in let bound = days_in_month_bounds d.year d.month in omega arith) (let high = d.month_in.1 in omega arith) (omega (arith, signed_arith)) in
    rw (sym (day_form (λ weekday day month _. short_date_form weekday day month s) d (day_number (m.seconds +ℤ m.offset)) e)) (rw place at form)

pub short_date_is_plain : (m : Moment) → IsInYears m → IsPlainShortDate m
short_date_is_plain m range =
    let date = date_of_day (day_number (m.seconds +ℤ m.offset)) (omega (arith, signed_arith), omega (arith, signed_arith)) in
    short_by m date.0 date.1
