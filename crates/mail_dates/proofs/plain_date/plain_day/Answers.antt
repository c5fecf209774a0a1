use Rattle.std.proofs.Common.{◌≡◌, true, sym, ◌∙◌, arith, FitsSigned, w32, to_z-of_z}
use Rattle.std.proofs.lemmas.Int.{ints}
use Rattle.mail_dates.specs.Values.{is_day_name}
use Rattle.mail_dates.proofs.PlainDates.{plain_day_reads}
use Rattle.mail_dates.proofs.plain_date.plain_day.Goals as goal

pub returns-clause-value : goal.returns-clause-value
returns-clause-value c =
    let fits : FitsSigned w32 c.in_ok-date.date = omega (arith, ints, c.in_ok-date.ensures.bound) in
    let named : is_day_name c.in_ok-name.name.now ≡ true = sym c.is_day_name.ensures ∙ c.if-not-is_day_name.false in
    simp to_z-of_z
    (plain_day_reads c.args.text.now c.in_ok-name.name.now c.in_ok-name.rest.now c.in_ok-space.rest.now c.in_ok-space.space c.in_ok-day.day.now c.in_ok-day.rest.now
    c.in_ok-month.month.now c.in_ok-month.rest.now c.in_ok-year.year.now c.in_ok-year.rest.now c.in_ok-date.date
    c.in_ok-name.ensures.whole c.in_ok-space.ensures c.if-space-ne32.false c.in_ok-day.ensures c.in_ok-month.ensures.whole c.in_ok-year.ensures.whole
    c.in_ok-name.ensures.front named c.in_ok-month.ensures.front c.in_ok-year.ensures.front
    (sym c.in_ok-date.ensures.value))
