use Rattle.std.proofs.Common.{arith}
use Rattle.mbox_scan.specs.Mailbox.{texts_of}
use Rattle.folder_change.proofs.DifferenceLemmas.{ne-true, ne-false, walked-more, walked-other, walked-short}
use Rattle.folder_change.proofs.writing.first_difference.Goals as goal

pub returns-then-ne-clause-differs : goal.returns-then-ne-clause-differs
returns-then-ne-clause-differs c =
    walked-other (texts_of c.args.base.now) c.args.texts.now c.loop-k.texts c.next_text.new.self c.loop-k.k c.message.result c.in-Some.text.now
    c.loop-k.invariant (omega (arith, c.count-k-end.ensures.count)) c.in-Some.ensures c.message.ensures.front
    (ne-true c.in-Some.text.now c.text.result.now c.message.result c.ne.result c.ne.ensures c.if-ne.true c.text.ensures)

pub returns-in-None-clause-differs : goal.returns-in-None-clause-differs
returns-in-None-clause-differs c =
    walked-short (texts_of c.args.base.now) c.args.texts.now c.loop-k.texts c.loop-k.k c.loop-k.invariant (omega (arith, c.count-k-end.ensures.count)) c.in-None.ensures.0

pub loop-k-preserved : goal.loop-k-preserved
loop-k-preserved c =
    walked-more (texts_of c.args.base.now) c.args.texts.now c.loop-k.texts c.next_text.new.self c.loop-k.k c.message.result c.in-Some.text.now
    c.loop-k.invariant c.in-Some.ensures c.message.ensures.front
    (ne-false c.in-Some.text.now c.text.result.now c.message.result c.ne.result c.ne.ensures c.if-ne.false c.text.ensures)
