use Rattle.mail_addresses.proofs.PlainLemmas.{dots_last, dots_more}
use Rattle.mail_addresses.proofs.plain.after_dots.Goals as goal

pub loop-after-preserved : goal.loop-after-preserved
loop-after-preserved c = λ after dots.
    c.loop-after.invariant after (dots_more c.loop-after.rest.now c.in-Some.field-0-0.now c.in-Some.after.now c.in-Some-behind.later.now after c.in-Some.ensures c.in-Some-behind.ensures dots)

pub returns-in-None-behind : goal.returns-in-None-behind
returns-in-None-behind c =
    c.loop-after.invariant c.in-Some.after.now (dots_last c.loop-after.rest.now c.in-Some.field-0-0.now c.in-Some.after.now c.in-Some.ensures)
