use Rattle.std.proofs.Common.{◌≡◌, refl, arith, FitsSigned, w32, to_z-of_z, pos}
use Rattle.std.proofs.lemmas.Int.{ints}
use Rattle.mail_dates.specs.FromLines.{arrival}
use Rattle.mail_dates.specs.Values.{moment_value, moment_of}
use Rattle.mail_dates.proofs.from_line.arrival.Goals as goal

pub returns-in_err-name-clause-value : goal.returns-in_err-name-clause-value
unfolding arrival
returns-in_err-name-clause-value c = rw (c.from_residual.ensures, c.in_err-name.ensures) refl

pub returns-in_err-month-clause-value : goal.returns-in_err-month-clause-value
unfolding arrival
returns-in_err-month-clause-value c = rw (c.from_residual-in_err-month.ensures, c.in_ok-name.ensures, c.in_err-month.ensures) refl

pub returns-in_err-day-clause-value : goal.returns-in_err-day-clause-value
unfolding arrival
returns-in_err-day-clause-value c = rw (c.from_residual-in_err-day.ensures, c.in_ok-name.ensures, c.in_ok-month.ensures, c.in_err-day.ensures) refl

pub returns-in_err-time-clause-value : goal.returns-in_err-time-clause-value
unfolding arrival
returns-in_err-time-clause-value c =
    rw (c.from_residual-in_err-time.ensures, c.in_ok-name.ensures, c.in_ok-month.ensures, c.in_ok-day.ensures, c.in_err-time.ensures) refl

pub returns-then-not-is_day_name-clause-value : goal.returns-then-not-is_day_name-clause-value
unfolding arrival
returns-then-not-is_day_name-clause-value c =
    rw (c.in_ok-name.ensures, c.in_ok-month.ensures, c.in_ok-day.ensures, c.in_ok-time.ensures, ← c.is_day_name.ensures, c.if-not-is_day_name.true) refl

pub returns-in_err-date-clause-value : goal.returns-in_err-date-clause-value
unfolding arrival moment_value
returns-in_err-date-clause-value c =
    rw (
      c.from_residual-in_err-date.ensures,
      c.in_ok-name.ensures,
      c.in_ok-month.ensures,
      c.in_ok-day.ensures,
      c.in_ok-time.ensures,
      ← c.is_day_name.ensures,
      c.if-not-is_day_name.false,
      ← c.in_err-date.ensures.value,
    ) refl

pub returns-in_err-time-2-clause-value : goal.returns-in_err-time-2-clause-value
unfolding arrival moment_value
returns-in_err-time-2-clause-value c =
    rw (
      c.from_residual-in_err-time-2.ensures,
      c.in_ok-name.ensures,
      c.in_ok-month.ensures,
      c.in_ok-day.ensures,
      c.in_ok-time.ensures,
      ← c.is_day_name.ensures,
      c.if-not-is_day_name.false,
      ← c.in_ok-date.ensures.value,
      ← c.in_err-time-2.ensures.value,
    ) refl

pub returns-clause-value : goal.returns-clause-value
unfolding arrival moment_value
returns-clause-value c =
    let date_fits : FitsSigned w32 c.in_ok-date.date = omega (arith, ints, c.in_ok-date.ensures.bound) in
    let moment : c.moment.result ≡ moment_of c.in_ok-date.date c.in_ok-time-2.time (pos 0) = simp to_z-of_z at c.moment.ensures.value in
    rw (
      c.in_ok-name.ensures,
      c.in_ok-month.ensures,
      c.in_ok-day.ensures,
      c.in_ok-time.ensures,
      ← c.is_day_name.ensures,
      c.if-not-is_day_name.false,
      ← c.in_ok-date.ensures.value,
      ← c.in_ok-time-2.ensures.value,
      moment,
    ) refl
