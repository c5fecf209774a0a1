use Rattle.std.proofs.Common.{arith}
use Rattle.std.proofs.lemmas.Int.{ints}
use Rattle.mail_dates.specs.Clock.{clock_seconds}
use Rattle.mail_dates.proofs.CivilDays.{same_day, same_second}
use Rattle.mail_dates.proofs.print.shown.Goals as goal

pub returns-clause-day : goal.returns-clause-day
returns-clause-day c = same_day _ _ (clock_seconds c.args.m) c.civil.ensures.day (omega (arith, ints, c.whole_minutes.ensures.value, c.from-offset.ensures))

pub returns-clause-time : goal.returns-clause-time
returns-clause-time c = same_second _ _ (clock_seconds c.args.m) c.civil.ensures.time (omega (arith, ints, c.whole_minutes.ensures.value, c.from-offset.ensures))
