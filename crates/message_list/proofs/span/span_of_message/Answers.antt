use Rattle.std.proofs.Common.{sym, ◌∙◌, arith}
use Rattle.message_list.proofs.ViewLemmas.{order_length}
use Rattle.message_list.proofs.SpanLemmas.{span_here, span_nowhere}
use Rattle.message_list.proofs.span.span_of_message.Goals as goal

pub overflow_add-result : goal.overflow_add-result
overflow_add-result c = omega (arith, order_length c.args.shown.now c.requires.valid, c.in-Some-place.ensures.within)

pub returns-in-Some-place : goal.returns-in-Some-place
returns-in-Some-place c =
    rw c.in-Some.is (span_here c.args.shown.now c.requires.valid c.in-Some.k c.in-Some-place.p (sym c.in-Some-place.is ∙ c.place_in-place.ensures.place) c.in-Some-place.ensures.within)

pub returns-in-None-place : goal.returns-in-None-place
returns-in-None-place c = rw c.in-Some.is (span_nowhere c.args.shown.now c.requires.valid c.in-Some.k (sym c.in-None-place.is ∙ c.place_in-place.ensures.place))
