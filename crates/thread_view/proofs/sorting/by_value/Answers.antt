use Rattle.std.proofs.Common.{◌≡◌, ◌∙◌, ℕ, length, arith}
use Rattle.std.specs.Ordering.{nat_cmp}
use Rattle.std.proofs.lemmas.Cmp.{nat_cmp_total}
use Rattle.std.proofs.lemmas.Result.{IfOk-weaker}
use Rattle.thread_view.specs.Pairs.{value_of}
use Rattle.thread_view.specs.Parents.{row_at}
use Rattle.thread_view.specs.Sorting.{number_of}
use Rattle.thread_view.proofs.SortLemmas.{in_order-own, keyed-step}
use Rattle.thread_view.proofs.sorting.by_value.Goals as goal

pub loop-p-preserved : goal.loop-p-preserved
loop-p-preserved c =
    let inv = c.loop-p.invariant in
    record {
      pairs = keyed-step (number_of (value_of c.args.key)) c.args.rows.now c.loop-p.p c.index-rows-p.result c.value_of.result c.loop-p.pairs.items
          c.push_reserved.new.self.items c.loop-p-test.true c.index-rows-p.is c.value_of.ensures inv.pairs c.push_reserved.ensures.items;
      count = omega (arith, c.push_reserved.ensures.len, inv.count);
      room = c.push_reserved.ensures.capacity ∙ inv.room;
    }

pub returns : goal.returns
returns c =
    let rows = c.args.rows.now in
    let end : c.loop-p.p ≡ length rows = omega (arith, c.loop-p-test.false, c.loop-p.auto.p-end) in
    IfOk-weaker c.numbers_by.result _ _
    (λ order sorts. in_order-own nat_cmp nat_cmp_total (λ (k : ℕ). number_of (value_of c.args.key) (row_at rows k))
    (length rows) c.loop-p.p c.loop-p.pairs.items order.items end c.loop-p.invariant.pairs sorts)
    c.numbers_by.ensures
