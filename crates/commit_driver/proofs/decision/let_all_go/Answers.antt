use Rattle.std.proofs.Common.{◌<◌, ℕ, List, length, take, get_or, slice_set, Option, None, ap, sym, ◌∙◌, arith}
use Rattle.commit_driver.specs.Holding.{held_first}
use Rattle.commit_driver.proofs.HoldingLemmas.{held-long, held-none, held-more}
use Rattle.commit_driver.proofs.decision.let_all_go.Goals as goal

pub loop-at-init : goal.loop-at-init
loop-at-init c = sym (held-none c.args.files.now)

pub let_go_at-requires : goal.let_go_at-requires
let_go_at-requires c = omega (arith, ap length c.loop-at.invariant, held-long c.args.files.now (take c.loop-at.at c.args.stays.now), c.requires)

pub loop-at-preserved : goal.loop-at-preserved
loop-at-preserved c =
    let fs = c.args.files.now in
    let ss = c.args.stays.now in
    let at = c.loop-at.at in
    let l : at < length fs = omega (arith, c.requires) in
    let k : at < length ss = omega arith in
    c.let_go_at.ensures
    ∙ ap (λ (t : Option ℕ). slice_set c.loop-at.files at (held_first t (get_or c.loop-at.files at None))) c.own_tail.ensures
    ∙ ap (λ (gs : List (Option (List ℕ))). slice_set gs at (held_first (get_or ss at None) (get_or gs at None))) c.loop-at.invariant
    ∙ held-more fs ss at None None l k
