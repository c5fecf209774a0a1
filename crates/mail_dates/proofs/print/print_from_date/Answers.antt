use Rattle.mail_dates.specs.Clock.{clock_seconds, day_number, second_of_day}
use Rattle.mail_dates.specs.Printed.{from_date_form}
use Rattle.mail_dates.proofs.CivilDays.{day_form}
use Rattle.mail_dates.proofs.print.print_from_date.Goals as goal

pub returns : goal.returns
unfolding from_date_form
returns c =
    rw (
      c.in_ok-push-9.ensures.ok,
      c.in_ok-push-8.ensures.ok,
      c.in_ok-push-7.ensures.ok,
      c.in_ok-push-6.ensures.ok,
      c.in_ok-push-5.ensures.ok,
      c.in_ok-push-4.ensures.ok,
      c.in_ok-push-3.ensures.ok,
      c.in_ok-push-2.ensures.ok,
      c.in_ok-push.ensures.ok,
    )
    (rw (
      c.new-text.ensures,
      c.day_name.ensures,
      c.index.ensures.value,
      c.weekday.ensures,
      c.two_places.ensures,
      c.month_name.ensures,
      c.four_digits.ensures,
      c.year_of.ensures.value,
      c.clock.ensures,
      c.shown-shown.ensures.time,
    )
    (day_form (λ weekday day month year. from_date_form weekday day month year (second_of_day (clock_seconds c.args.m))) c.shown-shown.result.date
    (day_number (clock_seconds c.args.m)) c.shown-shown.ensures.day))
