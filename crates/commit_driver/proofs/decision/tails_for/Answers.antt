use Rattle.std.proofs.Common.{◌≡◌, ◌<◌, ◌++◌, ℕ, Bool, List, [], ◌∷◌, length, get_or, Option, ap, sym, ◌∙◌, arith}
use Rattle.commit_machine.specs.Edits.{only_adds}
use Rattle.commit_driver.specs.Places.{tail_at}
use Rattle.commit_driver.proofs.WayLemmas.{tails-more}
use Rattle.commit_driver.proofs.decision.tails_for.Goals as goal

pub loop-at-preserved : goal.loop-at-preserved
loop-at-preserved c =
    let changes = c.args.changes.now in
    let es = c.args.entries.now in
    let fs = c.args.files.now in
    let at = c.loop-at.at in
    let e = c.index-entries-at.result in
    let f = c.index-files-at.result in
    let so_far = c.loop-at.tails in
    let l : at < length es = omega arith in
    let k : at < length fs = omega arith in
    let adds : c.only_adds-adds.result ≡ only_adds changes (get_or es at e).name = c.only_adds-adds.ensures ∙ ap (only_adds changes) c.bytes.ensures in
    c.in_ok-push.ensures.ok
    ∙ ap (λ (t : Option ℕ). so_far ++ t ∷ []) (c.tail_at.ensures ∙ ap (tail_at c.only_adds-adds.result) c.index-files-at.is)
    ∙ ap (λ (b : Bool). so_far ++ tail_at b (get_or fs at f) ∷ []) adds
    ∙ ap (λ (ts : List (Option ℕ)). ts ++ tail_at (only_adds changes (get_or es at e).name) (get_or fs at f) ∷ []) c.loop-at.invariant
    ∙ sym (tails-more changes es fs at e f l k)
