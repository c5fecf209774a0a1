use Rattle.std.proofs.Common.{◌≡◌, arith, pos, neg_ℤ, ◌*ℤ◌, ◌≤ℤ◌}
use Rattle.std.proofs.lemmas.Int.{ints}
use Rattle.jiff_core.specs.DateTime.{civil_nanos}
use Rattle.jiff_core.specs.Date.{epoch_day}
use Rattle.jiff_core.proofs.SignedLemmas.{signed_arith}
use Rattle.mail_dates.specs.Clock.{day_number}
use Rattle.mail_dates.proofs.CivilDays.{day_number-shown, second_of_day-shown, year_from_0}
use Rattle.mail_dates.proofs.print.civil.Goals as goal
use Rattle.mail_dates.proofs.print.civil.Goals.{After-from_nanosecond_in_range}

nanos : (c : After-from_nanosecond_in_range) → civil_nanos c.from_nanosecond_in_range.result ≡ c.args.seconds *ℤ pos 1_000_000_000
nanos c = omega (arith, ints, c.from_nanosecond_in_range.ensures, c.from.ensures)

pub returns-clause-day : goal.returns-clause-day
returns-clause-day c = day_number-shown c.from_nanosecond_in_range.result c.args.seconds (nanos c)

pub returns-clause-time : goal.returns-clause-time
returns-clause-time c = second_of_day-shown c.from_nanosecond_in_range.result c.args.seconds (nanos c)

pub returns-clause-year : goal.returns-clause-year
returns-clause-year c =
    let date = c.from_nanosecond_in_range.result.date in
    let day : epoch_day date ≡ day_number c.args.seconds = day_number-shown c.from_nanosecond_in_range.result c.args.seconds (nanos c) in
    let late : neg_ℤ (pos 719_528) ≤ℤ epoch_day date = omega (arith, signed_arith) in
    year_from_0 date late
