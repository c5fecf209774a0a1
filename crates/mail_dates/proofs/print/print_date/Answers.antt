use Rattle.std.proofs.Common.{◌≡◌, arith, int_div, pos, FitsSigned, w32, to_z-of_z}
use Rattle.std.proofs.lemmas.Int.{ints}
use Rattle.mail_dates.specs.Clock.{clock_seconds, day_number, second_of_day}
use Rattle.mail_dates.specs.Printed.{date_form, zone_text}
use Rattle.mail_dates.proofs.CivilDays.{day_form}
use Rattle.mail_dates.proofs.print.print_date.Goals as goal

pub returns : goal.returns
unfolding date_form
returns c =
    let offset_fits : FitsSigned w32 c.args.m.offset = omega (arith, ints) in
    let minutes_fit : FitsSigned w32 c.whole_minutes.result = omega (arith, ints, c.whole_minutes.ensures.bound) in
    let minutes : c.whole_minutes.result ≡ int_div c.args.m.offset (pos 60) = simp to_z-of_z at c.whole_minutes.ensures.value in
    let zone : c.zone.result ≡ zone_text c.whole_minutes.result = simp to_z-of_z at c.zone.ensures in
    rw (c.in_ok-push-4.ensures.ok, c.in_ok-push-3.ensures.ok, c.in_ok-push-2.ensures.ok, c.in_ok-push.ensures.ok, c.in_ok-text.ensures)
    (rw (c.clock.ensures, zone, minutes, c.shown-shown.ensures.time)
    (day_form (λ weekday day month year. date_form weekday day month year (second_of_day (clock_seconds c.args.m))
    (int_div c.args.m.offset (pos 60))) c.shown-shown.result.date (day_number (clock_seconds c.args.m)) c.shown-shown.ensures.day))
