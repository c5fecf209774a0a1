use Rattle.std.proofs.Common.{◌<◌, length, arith}
use Rattle.message_list.proofs.ViewLemmas.{order_length}
use Rattle.message_list.proofs.SpanLemmas.{span_from, span_turned}
use Rattle.message_list.proofs.span.span_between.Goals as goal

pub overflow_add-result : goal.overflow_add-result
overflow_add-result c =
    let within : c.in-Some-Some.to < length c.args.shown.now.order = rw c.in-Some-Some.is-1 at c.requires.within in
    omega (arith, order_length c.args.shown.now c.requires.valid)

pub returns-then-from-to : goal.returns-then-from-to
returns-then-from-to c =
    let within : c.in-Some-Some.to < length c.args.shown.now.order = rw c.in-Some-Some.is-1 at c.requires.within in
    rw (c.in-Some-Some.is-0, c.in-Some-Some.is-1) (span_from c.args.shown.now c.requires.valid c.in-Some-Some.from c.in-Some-Some.to c.if-from-to.true within)

pub returns-else-from-to : goal.returns-else-from-to
returns-else-from-to c = rw (c.in-Some-Some.is-0, c.in-Some-Some.is-1) (span_turned c.args.shown.now c.requires.valid c.in-Some-Some.from c.in-Some-Some.to c.if-from-to.false)
