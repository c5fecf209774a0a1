use Rattle.std.proofs.Common.{sym, ◌∙◌, ap, arith}
use Rattle.mail_dates.specs.Reading.{signed_view}
use Rattle.mail_dates.proofs.PartLemmas.{signed_first-end, sign_missing, digits_missing, signed_read}
use Rattle.mail_dates.proofs.parts.read_signed.Goals as goal

pub returns-in_err-sign : goal.returns-in_err-sign
returns-in_err-sign c =
    ap signed_view c.from_residual-in_err-sign.ensures ∙ sym (signed_first-end c.args.text.now c.in_ok-text.text.now c.in_ok-text.ensures.0 c.in_err-sign.ensures)

pub returns-then-not-is_sign : goal.returns-then-not-is_sign
returns-then-not-is_sign c =
    sign_missing c.args.text.now c.in_ok-text.text.now c.in_ok-sign.tail.now c.in_ok-sign.sign c.in_ok-text.ensures c.in_ok-sign.ensures (sym c.is_sign.ensures ∙ c.if-not-is_sign.true)

pub returns-then-count-eq0 : goal.returns-then-count-eq0
returns-then-count-eq0 c =
    digits_missing c.args.text.now c.in_ok-text.text.now c.in_ok-sign.tail.now c.in_ok-sign.sign c.in_ok-text.ensures.0 c.in_ok-sign.ensures
    (sym c.is_sign.ensures ∙ c.if-not-is_sign.false) (omega arith)

pub returns : goal.returns
returns c =
    signed_read c.args.text.now c.in_ok-text.text.now c.in_ok-sign.tail.now _ _ c.in_ok-sign.sign c.digits_len-count.result c.in_ok-text.ensures.0
    c.in_ok-sign.ensures (sym c.is_sign.ensures ∙ c.if-not-is_sign.false) c.digits_len-count.ensures.value c.if-count-eq0.false c.split_at.ensures.front c.split_at.ensures.back
