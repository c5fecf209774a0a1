use Rattle.std.proofs.Common.{◌≡◌, ◌<◌, ℕ, List, length, get_or, ap, arith, length-set}
use Rattle.message_list.proofs.ViewLemmas.{message_at, order_length}
use Rattle.message_list.proofs.SpanLemmas.{table_step}
use Rattle.message_list.proofs.span.places_of.Goals as goal

pub overflow_sub-n : goal.overflow_sub-n
overflow_sub-n c =
    let same : get_or c.items-order.result.now c.loop-p.p 0 ≡ get_or c.args.shown.now.order c.loop-p.p 0 = ap (λ (o : List ℕ). get_or o c.loop-p.p 0) c.items-order.ensures in
    let is = message_at c.args.shown.now c.requires c.loop-p.p (omega (arith, ap (λ (o : List ℕ). length o) c.items-order.ensures)) in
    omega (arith, is.0)

pub index_mut-requires : goal.index_mut-requires
index_mut-requires c =
    let same : get_or c.items-order.result.now c.loop-p.p 0 ≡ get_or c.args.shown.now.order c.loop-p.p 0 = ap (λ (o : List ℕ). get_or o c.loop-p.p 0) c.items-order.ensures in
    let is = message_at c.args.shown.now c.requires c.loop-p.p (omega (arith, ap (λ (o : List ℕ). length o) c.items-order.ensures)) in
    let count = order_length c.args.shown.now c.requires in
    omega (arith, is.0, is.1, c.loop-p.places.ok.0, c.loop-p.invariant.long)

pub loop-p-preserved : goal.loop-p-preserved
loop-p-preserved c =
    let order : List ℕ = c.args.shown.now.order in
    let p = c.loop-p.p in
    let n = get_or c.items-order.result.now p 0 in
    let lt : p < length order = omega (arith, ap (λ (o : List ℕ). length o) c.items-order.ensures) in
    let same : n ≡ get_or order p 0 = ap (λ (o : List ℕ). get_or o p 0) c.items-order.ensures in
    record {
      long = omega (arith, length-set {A = ℕ}, c.loop-p.invariant.long);
      at = table_step c.args.shown.now c.requires p n c.loop-p.places.items lt same c.loop-p.invariant.long c.loop-p.invariant.at;
    }
