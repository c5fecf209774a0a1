use Rattle.std.proofs.Common.{◌≡◌, ℕ, List, Vec, Global, ◌∷◌, [], ◌+◌, length, map, ap, ◌∙◌, arith}
use Rattle.std.specs.List.{range_with_len}
use Rattle.std.specs.Str.{str_to_ascii_lowercase}
use Rattle.std.proofs.lemmas.List.{map-append}
use Rattle.thread_view.specs.Pairs.{text_of}
use Rattle.thread_view.specs.Parents.{row_at}
use Rattle.thread_view.specs.Sorting.{lower_of}
use Rattle.thread_view.proofs.SortLemmas.{keyed-step}
use Rattle.thread_view.proofs.sorting.lower_texts.Goals as goal

seen : Vec ℕ Global × ℕ → List ℕ × ℕ
seen p = (p.0.items, p.1)

pub loop-p-preserved : goal.loop-p-preserved
unfolding seen
loop-p-preserved c =
    let inv = c.loop-p.invariant in
    let old = c.loop-p.pairs.items in
    let lower = c.in_ok-lower.lower in
    let pushed = c.push_reserved.ensures in
    record {
      pairs = keyed-step (lower_of (text_of c.args.key)) c.args.rows.now c.loop-p.p c.index-rows-p.result lower.items (map seen old)
          (map seen c.push_reserved.new.self.items) c.loop-p-test.true c.index-rows-p.is
          (c.in_ok-lower.ensures.ok ∙ ap str_to_ascii_lowercase c.text_of.ensures)
          inv.pairs
          (ap (map seen) pushed.items ∙ map-append seen old ((lower, c.loop-p.p + 1) ∷ []));
      count = omega (arith, pushed.len, inv.count);
      room = pushed.capacity ∙ inv.room;
    }

pub returns : goal.returns
returns c =
    let rows = c.args.rows.now in
    let end : c.loop-p.p ≡ length rows = omega (arith, c.loop-p-test.false, c.loop-p.auto.p-end) in
    c.loop-p.invariant.pairs ∙ ap (λ (n : ℕ). map {B = List ℕ × ℕ} (λ k. (lower_of (text_of c.args.key) (row_at rows k), k)) (range_with_len 1 n)) end
