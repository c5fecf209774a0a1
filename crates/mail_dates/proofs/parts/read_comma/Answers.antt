use Rattle.std.proofs.Common.{sym, ◌∙◌, ap}
use Rattle.mail_dates.specs.Reading.{rest_view}
use Rattle.mail_dates.proofs.PartLemmas.{comma_first-end, comma_missing, comma_read}
use Rattle.mail_dates.proofs.parts.read_comma.Goals as goal

pub returns-in_err-b : goal.returns-in_err-b
returns-in_err-b c =
    ap rest_view c.from_residual-in_err-b.ensures ∙ sym (comma_first-end c.args.text.now c.in_ok-at_part.field-0.now c.in_ok-at_part.ensures.0 c.in_err-b.ensures)

pub returns-then-b-ne44 : goal.returns-then-b-ne44
returns-then-b-ne44 c =
    comma_missing c.args.text.now c.in_ok-at_part.field-0.now c.in_ok-b.rest.now c.in_ok-b.b c.in_ok-at_part.ensures c.in_ok-b.ensures c.if-b-ne44.true

pub returns : goal.returns
returns c =
    comma_read c.args.text.now c.in_ok-at_part.field-0.now c.in_ok-b.rest.now c.in_ok-b.b c.in_ok-at_part.ensures.0 c.in_ok-b.ensures c.if-b-ne44.false
