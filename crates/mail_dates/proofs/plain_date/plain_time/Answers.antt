use Rattle.std.proofs.Common.{◌≡◌, true, sym, ◌∙◌, arith, FitsSigned, w32, to_z-of_z}
use Rattle.std.proofs.lemmas.Int.{ints}
use Rattle.mail_dates.proofs.PartLemmas.{is_sign}
use Rattle.mail_dates.proofs.PlainDates.{plain_time_reads}
use Rattle.mail_dates.proofs.plain_date.plain_time.Goals as goal

pub returns-clause-value : goal.returns-clause-value
returns-clause-value c =
    let fits : FitsSigned w32 c.in_ok-offset.offset = omega (arith, ints, c.in_ok-offset.ensures.bound) in
    let signed : is_sign c.in_ok-sign.sign ≡ true = sym c.is_sign.ensures ∙ c.if-not-is_sign.false in
    simp to_z-of_z
    (plain_time_reads c.args.text.now c.in_ok-hour.hour.now c.in_ok-hour.rest.now c.in_ok-minute.minute.now c.in_ok-minute.rest.now
    c.in_ok-second.second.now c.in_ok-second.rest.now c.in_ok-sign.zone.now c.in_ok-sign.sign c.in_ok-seconds.seconds c.in_ok-offset.offset
    c.in_ok-hour.ensures.whole c.in_ok-minute.ensures.whole c.in_ok-second.ensures.whole c.in_ok-sign.ensures signed
    (sym c.in_ok-seconds.ensures.value) (sym c.in_ok-offset.ensures.value))
