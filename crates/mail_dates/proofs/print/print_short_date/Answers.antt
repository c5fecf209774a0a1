use Rattle.std.proofs.Common.{◌≡◌, arith, ℤ, ◌+ℤ◌}
use Rattle.std.proofs.lemmas.Int.{ints}
use Rattle.jiff_core.specs.Date.{epoch_day}
use Rattle.jiff_core.specs.Time.{time_seconds}
use Rattle.mail_dates.specs.Clock.{day_number, second_of_day}
use Rattle.mail_dates.specs.Printed.{short_date_form}
use Rattle.mail_dates.proofs.CivilDays.{day_form, same_day, same_second}
use Rattle.mail_dates.proofs.print.print_short_date.Goals as goal

pub returns : goal.returns
unfolding short_date_form
returns c =
    let s : ℤ = c.args.m.seconds +ℤ c.args.m.offset in
    let day : epoch_day c.civil-shown.result.date ≡ day_number s = same_day _ _ s c.civil-shown.ensures.day (omega (arith, ints, c.from.ensures)) in
    let time : time_seconds c.civil-shown.result.time ≡ second_of_day s = same_second _ _ s c.civil-shown.ensures.time (omega (arith, ints, c.from.ensures)) in
    rw (c.in_ok-push-7.ensures.ok, c.in_ok-push-6.ensures.ok, c.in_ok-push-5.ensures.ok, c.in_ok-push-4.ensures.ok, c.in_ok-push-3.ensures.ok, c.in_ok-push-2.ensures.ok, c.in_ok-push.ensures.ok)
    (rw (c.new-text.ensures, c.day_name.ensures, c.index.ensures.value, c.weekday.ensures, c.two_places.ensures, c.month_name.ensures, c.clock.ensures, time)
    (day_form (λ weekday number month _. short_date_form weekday number month (second_of_day s)) c.civil-shown.result.date (day_number s) day))
