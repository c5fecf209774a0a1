use Rattle.std.proofs.Common.{refl}
use Rattle.mail_dates.specs.Printed.{calendar_form}
use Rattle.mail_dates.proofs.print.calendar_text.Goals as goal

pub returns : goal.returns
unfolding calendar_form
returns c =
    rw (c.in_ok-push-7.ensures.ok, c.in_ok-push-6.ensures.ok, c.in_ok-push-5.ensures.ok, c.in_ok-push-4.ensures.ok, c.in_ok-push-3.ensures.ok, c.in_ok-push-2.ensures.ok, c.in_ok-push.ensures.ok)
    (rw (c.new-text.ensures, c.day_name.ensures, c.index.ensures.value, c.weekday.ensures, c.two_digits.ensures, c.month_name.ensures, c.four_digits.ensures, c.year_of.ensures.value) refl)
