use Rattle.std.proofs.Common.{ℕ, List, length, sym, ap, subst, arith, IsPermutation}
use Rattle.std.specs.List.{range_with_len}
use Rattle.message_state.proofs.PlaceLemmas.{order_length, order_once}
use Rattle.thread_view.proofs.ViewsLemmas.{sorted-once}
use Rattle.thread_view.proofs.view.View.sorted.Goals as goal

pub listed-requires-clause-once : goal.listed-requires-clause-once
listed-requires-clause-once c =
    subst (λ (l : List ℕ). IsPermutation (range_with_len 1 (length l)) l) (sym c.of.ensures)
    (order_once (length c.args.rows.now) c.in_ok-order.order.items (sorted-once c.args.key c.args.rows.now c.in_ok-order.order.items c.in_ok-order.ensures))

pub listed-requires-clause-few : goal.listed-requires-clause-few
listed-requires-clause-few c =
    omega (
      arith,
      ap (λ (l : List ℕ). length l) c.of.ensures,
      order_length (length c.args.rows.now) c.in_ok-order.order.items (sorted-once c.args.key c.args.rows.now c.in_ok-order.order.items c.in_ok-order.ensures),
    )
