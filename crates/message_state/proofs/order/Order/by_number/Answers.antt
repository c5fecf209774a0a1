use Rattle.std.proofs.Common.{length, sym, ap, ◌∙◌}
use Rattle.std.specs.List.{range_with_len}
use Rattle.std.proofs.lemmas.List.FromFn.{length-range_with_len}
use Rattle.message_state.proofs.order.Order.by_number.Goals as goal

pub invariant_of-result : goal.invariant_of-result
invariant_of-result c =
    let is = c.in_ok-numbers.ensures in
    is ∙ ap (range_with_len 1) (sym (ap length is ∙ length-range_with_len 1 c.args.count))
