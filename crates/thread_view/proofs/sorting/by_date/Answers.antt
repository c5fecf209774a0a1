use Rattle.std.proofs.Common.{◌≡◌, ◌∙◌, ℕ, length, arith}
use Rattle.std.specs.Cmp.{int_cmp_total}
use Rattle.std.specs.Cmp.Lexicographic.{options_total}
use Rattle.std.specs.Option.{option_cmp}
use Rattle.std.specs.Ordering.{int_cmp}
use Rattle.std.proofs.lemmas.Result.{IfOk-weaker}
use Rattle.thread_view.specs.Parents.{row_at}
use Rattle.thread_view.specs.Sorting.{seconds_of}
use Rattle.thread_view.proofs.SortLemmas.{in_order-own, keyed-step}
use Rattle.thread_view.proofs.sorting.by_date.Goals as goal

pub loop-p-preserved : goal.loop-p-preserved
loop-p-preserved c =
    let inv = c.loop-p.invariant in
    record {
      pairs = keyed-step seconds_of c.args.rows.now c.loop-p.p c.index-rows-p.result c.seconds_of.result c.loop-p.pairs.items
          c.push_reserved.new.self.items c.loop-p-test.true c.index-rows-p.is c.seconds_of.ensures inv.pairs c.push_reserved.ensures.items;
      count = omega (arith, c.push_reserved.ensures.len, inv.count);
      room = c.push_reserved.ensures.capacity ∙ inv.room;
    }

pub returns : goal.returns
returns c =
    let rows = c.args.rows.now in
    let end : c.loop-p.p ≡ length rows = omega (arith, c.loop-p-test.false, c.loop-p.auto.p-end) in
    IfOk-weaker c.numbers_by.result _ _
    (λ order sorts. in_order-own (option_cmp int_cmp) (options_total int_cmp_total) (λ (k : ℕ). seconds_of (row_at rows k))
    (length rows) c.loop-p.p c.loop-p.pairs.items order.items end c.loop-p.invariant.pairs sorts)
    c.numbers_by.ensures
