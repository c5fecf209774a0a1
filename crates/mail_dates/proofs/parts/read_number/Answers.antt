use Rattle.std.proofs.Common.{sym, arith}
use Rattle.mail_dates.proofs.PartLemmas.{number_read, no_number}
use Rattle.mail_dates.proofs.parts.read_number.Goals as goal

pub returns-then-count-eq0 : goal.returns-then-count-eq0
returns-then-count-eq0 c =
    let at = c.in_ok-text.ensures in
    sym (rw at.0 (no_number c.in_ok-text.text.now at.1 (omega arith)))

pub returns : goal.returns
returns c =
    number_read c.args.text.now c.in_ok-text.text.now _ _ c.digits_len-count.result c.in_ok-text.ensures.0 c.digits_len-count.ensures.value
    c.if-count-eq0.false c.split_at.ensures.front c.split_at.ensures.back
