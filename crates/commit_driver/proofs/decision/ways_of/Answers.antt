use Rattle.std.proofs.Common.{◌<◌, ◌++◌, ℕ, List, [], ◌∷◌, length, get_or, Option, None, ap, sym, ◌∙◌, arith}
use Rattle.commit_record.specs.declared.way.Way.{Way}
use Rattle.commit_driver.specs.Places.{file_way}
use Rattle.commit_driver.proofs.WayLemmas.{ways-more}
use Rattle.commit_driver.proofs.decision.ways_of.Goals as goal

pub loop-at-preserved : goal.loop-at-preserved
loop-at-preserved c =
    let fs = c.args.files.now in
    let ts = c.args.tails.now in
    let at = c.loop-at.at in
    let f = c.index-files-at.result in
    let so_far = c.loop-at.ways in
    let l : at < length fs = omega arith in
    let k : at < length ts = omega arith in
    c.in_ok-push.ensures.ok
    ∙ ap (λ (w : Way). so_far ++ w ∷ []) c.file_way.ensures
    ∙ ap (λ (g : Option (List ℕ)). so_far ++ file_way g c.own_tail.result ∷ []) c.index-files-at.is
    ∙ ap (λ (t : Option ℕ). so_far ++ file_way (get_or fs at f) t ∷ []) c.own_tail.ensures
    ∙ ap (λ (ws : List Way). ws ++ file_way (get_or fs at f) (get_or ts at None) ∷ []) c.loop-at.invariant
    ∙ sym (ways-more fs ts at f None l k)
