use Rattle.mail_dates.proofs.PartLemmas.{past_blank, past_comment, open_comment}
use Rattle.mail_dates.proofs.parts.at_part.Goals as goal

pub loop-b-preserved-in-32 : goal.loop-b-preserved-in-32
loop-b-preserved-in-32 c =
    past_blank c.args.text.now c.loop-b.rest.now c.in-Some.tail.now c.in-Some.b c.in-32.is c.in-Some.ensures c.loop-b.invariant

pub returns-in_err-rest-in-40 : goal.returns-in_err-rest-in-40
returns-in_err-rest-in-40 c =
    rw c.from_residual.ensures (open_comment c.args.text.now c.loop-b.rest.now c.in-Some.tail.now c.in-Some.b c.in-40.is c.in-Some.ensures c.in_err-rest-in-40.ensures.comment c.loop-b.invariant)

pub loop-b-preserved : goal.loop-b-preserved
loop-b-preserved c =
    past_comment c.args.text.now c.loop-b.rest.now c.in-Some.tail.now c.in_ok-rest-in-40.rest.now c.in-Some.b c.in-40.is c.in-Some.ensures c.in_ok-rest-in-40.ensures.comment c.loop-b.invariant
