use Rattle.folder_change.proofs.DifferenceLemmas.{ne-true, ne-false, walked-more, walked-other, walked-short}
use Rattle.actor_bracket.proofs.RewriteLemmas.{item_front}
use Rattle.actor_bracket.proofs.rewriting.first_difference.Goals as goal

pub returns-then-ne-clause-differs : goal.returns-then-ne-clause-differs
returns-then-ne-clause-differs c =
    let base = c.args.base.now in
    let k = c.loop-k.k in
    let m = c.index-base-k.result in
    walked-other base c.args.texts.now c.loop-k.texts c.next_text.new.self k m c.in-Some.text.now
    c.loop-k.invariant c.loop-k-test.true c.in-Some.ensures (item_front base k m c.loop-k-test.true c.index-base-k.is)
    (ne-true c.in-Some.text.now c.bytes.result.now m c.ne.result c.ne.ensures c.if-ne.true c.bytes.ensures)

pub returns-in-None-clause-differs : goal.returns-in-None-clause-differs
returns-in-None-clause-differs c =
    walked-short c.args.base.now c.args.texts.now c.loop-k.texts c.loop-k.k c.loop-k.invariant c.loop-k-test.true c.in-None.ensures.0

pub loop-k-preserved : goal.loop-k-preserved
loop-k-preserved c =
    let base = c.args.base.now in
    let k = c.loop-k.k in
    let m = c.index-base-k.result in
    walked-more base c.args.texts.now c.loop-k.texts c.next_text.new.self k m c.in-Some.text.now
    c.loop-k.invariant c.in-Some.ensures (item_front base k m c.loop-k-test.true c.index-base-k.is)
    (ne-false c.in-Some.text.now c.bytes.result.now m c.ne.result c.ne.ensures c.if-ne.false c.bytes.ensures)
