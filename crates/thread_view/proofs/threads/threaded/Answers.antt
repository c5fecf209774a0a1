use Rattle.std.proofs.Common.{◌≡◌, sym, subst}
use Rattle.std.proofs.lemmas.Result.{IfOk-weaker}
use Rattle.thread_view.specs.Arrays.{AreCut, IsForest, IsParentArray}
use Rattle.thread_view.proofs.ThreadLemmas.{threaded-from}
use Rattle.thread_view.proofs.threads.threaded.Goals as goal

pub returns : goal.returns
returns c =
    let before = c.in_ok-named.named.items in
    let cut = c.in_ok-parents.ensures in
    let now : c.deref-2.result.now ≡ c.in_ok-parents.parents.items = c.deref-2.ensures.value in
    IfOk-weaker c.walked.result _ _
    (λ view walk.
    threaded-from c.args.rows.now before c.deref-2.result.now view.0.items view.1.items c.in_ok-named.ensures
    (subst (AreCut before) (sym now) cut.cut)
    (subst IsParentArray (sym now) cut.array)
    (subst IsForest (sym now) cut.forest)
    walk)
    c.walked.ensures
