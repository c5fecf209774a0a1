use Rattle.std.proofs.Common.{◌≡◌, ◌<◌, ◌++◌, ℕ, List, [], ◌∷◌, length, get_or, ap, sym, ◌∙◌, arith}
use Rattle.commit_record.specs.Ways.{entry_for}
use Rattle.commit_record.specs.declared.record.Entry.{Entry}
use Rattle.commit_record.specs.declared.way.Way.{Way}
use Rattle.commit_record.specs.declared.way.Way.TheVariants.{Replace}
use Rattle.commit_driver.proofs.WayLemmas.{decided-more}
use Rattle.commit_driver.proofs.decision.decided_entries.Goals as goal

pub loop-at-preserved : goal.loop-at-preserved
loop-at-preserved c =
    let es = c.args.entries.now in
    let ws = c.args.ways.now in
    let at = c.loop-at.at in
    let e = c.index-entries-at.result in
    let so_far = c.loop-at.decided in
    let l : at < length es = omega arith in
    let k : at < length ws = omega arith in
    let name : c.in_ok-name.name ≡ (get_or es at e).name = c.in_ok-name.ensures ∙ c.bytes.ensures in
    c.in_ok-push.ensures.ok
    ∙ ap (λ (x : Entry). so_far ++ x ∷ []) c.entry_for.ensures
    ∙ ap (λ (v : Way). so_far ++ entry_for v c.in_ok-name.name ∷ []) c.own_way.ensures
    ∙ ap (λ (n : List ℕ). so_far ++ entry_for (get_or ws at Replace) n ∷ []) name
    ∙ ap (λ (xs : List Entry). xs ++ entry_for (get_or ws at Replace) (get_or es at e).name ∷ []) c.loop-at.invariant
    ∙ sym (decided-more es ws at e Replace l k)
