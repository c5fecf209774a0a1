use Rattle.std.proofs.Common.{arith}
use Rattle.message_list.proofs.ViewLemmas.{order_length}
use Rattle.message_list.proofs.view.at_or_before.Goals as goal

pub overflow_add-p : goal.overflow_add-p
overflow_add-p c = omega (arith, order_length c.args.shown.now c.requires, c.requires.few, c.in-Some.ensures.within)
