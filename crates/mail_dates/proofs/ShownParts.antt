-- What the printed forms of a moment show: the parts of a date that the calendar has.
use Rattle.std.proofs.Common.{◌≡◌, ℕ, ◌+◌, ◌-◌, ◌<◌, ◌≤◌, refl, sym, ap, subst, ◌∙◌, arith, Some, ℤ, pos, negsuc, neg_ℤ, ◌≤ℤ◌, int_div, unsigned_abs}
use Rattle.std.proofs.lemmas.Bool.{le-leb}
use Rattle.jiff_core.specs.declared.civil.date.Date.{Date}
use Rattle.jiff_core.specs.Calendar.{IsWithin, days_in_month, days_from_civil}
use Rattle.jiff_core.specs.Date.{epoch_day, weekday_of}
use Rattle.jiff_core.proofs.SignedLemmas.{signed_arith, one_part}
use Rattle.jiff_core.proofs.CalendarLemmas.{weekday_number_bound, days_in_month_bounds}
use Rattle.mail_dates.specs.declared.moment.Moment.{Moment}
use Rattle.mail_dates.specs.Clock.{IsPrintable, clock_seconds, day_number, second_of_day}
use Rattle.mail_dates.specs.Printed.{date_form, from_date_form, date_text, from_date_text}
use Rattle.mail_dates.specs.Values.{date_value}
use Rattle.mail_dates.proofs.CivilDays.{day_form, year_from_1, date_of_day}

year_number : (y : ℤ) → pos 1 ≤ℤ y → y ≤ℤ pos 9999 → (pos (unsigned_abs y) ≡ y) × (0 < unsigned_abs y) × (unsigned_abs y < 10000)
year_number (pos n) low high = (refl, omega (arith, signed_arith), omega (arith, signed_arith))
year_number (negsuc n) low high = absurd (omega (arith, signed_arith))

-- the calendar has the dates that the library has
date_exists : (d : Date) (year : ℕ) → pos year ≡ d.year → date_value year d.month d.day ≡ Some (epoch_day d)
unfolding date_value
date_exists d year e =
    let in_month : ℤ → Type 0 = λ y. d.day ≤ days_in_month y d.month in
    let last : d.day ≤ days_in_month (pos year) d.month = subst in_month (sym e) d.day_in.1 in
    rw (le-leb 1 d.day d.day_in.0, le-leb d.day (days_in_month (pos year) d.month) last) (ap (λ y. Some (days_from_civil y d.month d.day)) e)

-- the parts that a moment in the range shows
pub record Shown (m : Moment) : Type 0 where
  pub weekday : ℕ
  pub day : ℕ
  pub place : ℕ
  pub year : ℕ
  pub weekday_in : weekday < 7
  pub day_in : day < 100
  pub place_in : place < 12
  pub some_year : 0 < year
  pub year_in : year < 10000
  pub time_in : second_of_day (clock_seconds m) < 86400
  pub zone_in : unsigned_abs (int_div m.offset (pos 60)) < 6000
  pub exists : date_value year (place + 1) day ≡ Some (day_number (clock_seconds m))
  pub date : date_text m ≡ date_form weekday day (place + 1) year (second_of_day (clock_seconds m)) (int_div m.offset (pos 60))
  pub from_date : from_date_text m ≡ from_date_form weekday day (place + 1) year (second_of_day (clock_seconds m))

zone_bound : (offset : ℤ) → IsWithin 93_599 offset → unsigned_abs (int_div offset (pos 60)) < 6000
zone_bound offset h = omega (arith, signed_arith, one_part offset)

shown_by : (m : Moment) (d : Date) → IsPrintable m → epoch_day d ≡ day_number (clock_seconds m) → Shown m
shown_by m d range e =
    let s : ℕ = second_of_day (clock_seconds m) in
    let minutes : ℤ = int_div m.offset (pos 60) in
    let late : neg_ℤ (pos 719_162) ≤ℤ epoch_day d = omega (arith, signed_arith) in
    let year = year_number d.year (year_from_1 d late) d.year_in.1 in
    let place : d.month - 1 + 1 ≡ d.month = (let low = d.month_in.0 in omega arith) in
    record {
      weekday = weekday_of d;
      day = d.day;
      place = d.month - 1;
      year = unsigned_abs d.year;
      weekday_in = weekday_number_bound (epoch_day d);
      day_in = (let last = d.day_in.1 in let bound = days_in_month_bounds d.year d.month in omega arith);
      place_in = (let high = d.month_in.1 in omega arith);
      some_year = year.1;
      year_in = year.2;
      time_in = omega (arith, signed_arith);
      zone_in = zone_bound m.offset range.1;
      exists = rw place (date_exists d (unsigned_abs d.year) year.0 ∙ ap Some e);
      date = rw place (sym (day_form (λ weekday day month y. date_form weekday day month y s minutes) d (day_number (clock_seconds m)) e));
      from_date = rw place (sym (day_form (λ weekday day month y. from_date_form weekday day month y s) d (day_number (clock_seconds m)) e));
    }

pub shown : (m : Moment) → IsPrintable m → Shown m
shown m range =
    let date = date_of_day (day_number (clock_seconds m)) (omega (arith, signed_arith), omega (arith, signed_arith)) in
    shown_by m date.0 range date.1
