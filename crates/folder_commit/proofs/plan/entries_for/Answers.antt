use Rattle.std.proofs.Common.{ap, sym, ◌∙◌, take, ◌++◌, [], ◌∷◌, List}
use Rattle.std.proofs.lemmas.List.{take_more}
use Rattle.folder_change.specs.declared.change.Change.{Change}
use Rattle.commit_machine.specs.Edits.{first_names}
use Rattle.folder_commit.specs.Plans.{replaced, with_entry}
use Rattle.folder_commit.proofs.PlanLemmas.{named-more}
use Rattle.folder_commit.proofs.plan.entries_for.Goals as goal

pub loop-change-preserved : goal.loop-change-preserved
loop-change-preserved c =
    let xs = c.args.changes.now in
    let i = c.loop-change.change-index in
    let x = c.change-item.result in
    let before = take i xs in
    c.in_ok-put_entry.ensures
    ∙ ap (with_entry c.loop-change.entries) c.change_name.ensures
    ∙ named-more before x c.loop-change.entries c.loop-change.invariant
    ∙ ap (λ (cs : List Change). replaced (first_names cs)) (ap (λ (z : Change). before ++ z ∷ []) c.change-item.is ∙ sym (take_more xs i x c.loop-change-test.true))
