use Rattle.std.proofs.Common.{◌<◌, ◌++◌, ℕ, List, [], ◌∷◌, length, get_or, Option, None, ap, sym, ◌∙◌, arith}
use Rattle.commit_driver.specs.Holding.{stay_end}
use Rattle.commit_driver.proofs.HoldingLemmas.{ends-more}
use Rattle.commit_driver.proofs.decision.ends_for.Goals as goal

pub loop-at-preserved : goal.loop-at-preserved
loop-at-preserved c =
    let fs = c.args.files.now in
    let ss = c.args.stays.now in
    let at = c.loop-at.at in
    let f = c.index-files-at.result in
    let so_far = c.loop-at.ends in
    let l : at < length fs = omega arith in
    let k : at < length ss = omega arith in
    c.in_ok-push.ensures.ok
    ∙ ap (λ (e : List ℕ). so_far ++ e ∷ []) c.in_ok-end.ensures
    ∙ ap (λ (g : Option (List ℕ)). so_far ++ stay_end g c.own_tail.result ∷ []) c.index-files-at.is
    ∙ ap (λ (t : Option ℕ). so_far ++ stay_end (get_or fs at f) t ∷ []) c.own_tail.ensures
    ∙ ap (λ (es : List (List ℕ)). es ++ stay_end (get_or fs at f) (get_or ss at None) ∷ []) c.loop-at.invariant
    ∙ sym (ends-more fs ss at f None l k)
