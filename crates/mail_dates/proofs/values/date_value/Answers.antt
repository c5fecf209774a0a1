use Rattle.std.proofs.Common.{arith, pos, ◌≤ℤ◌}
use Rattle.std.proofs.lemmas.Int.{ints}
use Rattle.mail_dates.proofs.CivilDays.{day_from_0}
use Rattle.mail_dates.proofs.values.date_value.Goals as goal

pub returns-in-Ok-clause-bound : goal.returns-in-Ok-clause-bound
returns-in-Ok-clause-bound c =
    let from_0 : pos 0 ≤ℤ c.in-Ok.date.year = omega (arith, ints, c.in-Ok.ensures.value) in
    let low = day_from_0 c.in-Ok.date from_0 in
    omega (arith, ints, c.to_unix_epoch_day.ensures.value, c.to_unix_epoch_day.ensures.bound)
