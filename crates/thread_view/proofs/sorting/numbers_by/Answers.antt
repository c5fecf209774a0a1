use Rattle.std.proofs.Common.{ℕ, List, ◌++◌, ◌∷◌, [], map, take, sym, ap, ◌∙◌, arith}
use Rattle.std.proofs.lemmas.List.{map_more, take_all}
use Rattle.thread_view.proofs.sorting.numbers_by.Goals as goal

pub loop-pair-preserved : goal.loop-pair-preserved
loop-pair-preserved g c =
    let xs = c.deref-pair-items.result.now in
    let i = c.loop-pair.pair-index in
    let x = c.pair-item.result in
    let pushed = c.push_reserved.ensures in
    let old = c.loop-pair.invariant.0 in
    let more = map_more (λ (p : g.row.K.Denot × ℕ). p.1) xs i x c.loop-pair-test.true in
    let is = ap (λ (p : g.row.K.Denot × ℕ). p.1) c.pair-item.is in (
      pushed.items ∙ ap (λ (l : List ℕ). l ++ x.1 ∷ []) old ∙ ap (λ (n : ℕ). map (λ (p : g.row.K.Denot × ℕ). p.1) (take i xs) ++ n ∷ []) is ∙ sym more,
      omega (arith, pushed.len, c.loop-pair.invariant.1),
      pushed.capacity ∙ c.loop-pair.invariant.2,
    )

pub returns : goal.returns
returns g c =
    let xs = c.deref-pair-items.result.now in
    record {
      sorted = c.sort_unstable.new.self.items;
      moved = c.sort_unstable.ensures.permutation;
      ascend = c.sort_unstable.ensures.sorted;
      are = c.loop-pair.invariant.0
          ∙ ap (map (λ (p : g.row.K.Denot × ℕ). p.1)) (take_all c.loop-pair.pair-index xs c.loop-pair-test.false ∙ c.deref-pair-items.ensures.value);
    }
