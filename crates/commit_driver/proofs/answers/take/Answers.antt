use Rattle.std.proofs.Common.{◌+◌, ◌≤◌, List, length, ap, subst, ◌∙◌}
use Rattle.std.specs.Prelude.{option_copied}
use Rattle.folder_change.specs.Outcomes.{base_list}
use Rattle.commit_record.specs.declared.record.Entry.{Entry}
use Rattle.commit_driver.specs.Answers.{judged_at}
use Rattle.commit_driver.proofs.DecisionLemmas.{takes-of}
use Rattle.commit_driver.proofs.answers.take.Goals as goal

pub returns-else-at-entries : goal.returns-else-at-entries
returns-else-at-entries c =
    let changes = c.args.changes.now in
    let base = base_list (option_copied c.args.base) in
    let entries = c.items-entries.ensures in
    let L : List Entry → Type 0 = λ es. length es ≤ c.args.at + 1 in
    takes-of c.args.plan.now c.args.at c.args.file changes base c.args.place.now c.make_files-result.new.place c.make_files-result.result c.judged-place.result
    (subst L entries c.if-at-entries.false) c.make_files-result.ensures (c.judged-place.ensures ∙ ap (λ (es : List Entry). judged_at (length es) c.make_files-result.result) entries)
