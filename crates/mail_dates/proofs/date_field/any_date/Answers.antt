use Rattle.std.proofs.Common.{◌≡◌, refl, arith, FitsSigned, w32, to_z-of_z}
use Rattle.std.proofs.lemmas.Int.{ints}
use Rattle.mail_dates.specs.Values.{moment_of}
use Rattle.mail_dates.specs.Parts.{date_parts}
use Rattle.mail_dates.proofs.DateSteps.{date_time-steps}
use Rattle.mail_dates.proofs.date_field.any_date.Goals as goal

pub returns-in_err-rest-clause-value : goal.returns-in_err-rest-clause-value
returns-in_err-rest-clause-value c = rw (c.from_residual.ensures, date_time-steps (date_parts c.args.value.now), ← c.in_err-rest.ensures) refl

pub returns-in_err-day-clause-value : goal.returns-in_err-day-clause-value
returns-in_err-day-clause-value c = rw (c.from_residual-in_err-day.ensures, date_time-steps (date_parts c.args.value.now), ← c.in_ok-rest.ensures, ← c.in_err-day.ensures.value) refl

pub returns-in_err-time-clause-value : goal.returns-in_err-time-clause-value
returns-in_err-time-clause-value c =
    rw (c.from_residual-in_err-time.ensures, date_time-steps (date_parts c.args.value.now), ← c.in_ok-rest.ensures, ← c.in_ok-day.ensures.value, ← c.in_err-time.ensures.value) refl

pub returns-in_err-offset-clause-value : goal.returns-in_err-offset-clause-value
returns-in_err-offset-clause-value c =
    rw (
      c.from_residual-in_err-offset.ensures,
      date_time-steps (date_parts c.args.value.now),
      ← c.in_ok-rest.ensures,
      ← c.in_ok-day.ensures.value,
      ← c.in_ok-time.ensures.value,
      ← c.in_err-offset.ensures.value,
    ) refl

pub returns-clause-value : goal.returns-clause-value
returns-clause-value c =
    let day_fits : FitsSigned w32 c.in_ok-day.day = omega (arith, ints, c.in_ok-day.ensures.bound) in
    let offset_fits : FitsSigned w32 c.in_ok-offset.offset = omega (arith, ints, c.in_ok-offset.ensures.bound) in
    let moment : c.moment.result ≡ moment_of c.in_ok-day.day c.in_ok-time.time c.in_ok-offset.offset = simp to_z-of_z at c.moment.ensures.value in
    rw (date_time-steps (date_parts c.args.value.now), ← c.in_ok-rest.ensures, ← c.in_ok-day.ensures.value, ← c.in_ok-time.ensures.value, ← c.in_ok-offset.ensures.value, moment) refl
