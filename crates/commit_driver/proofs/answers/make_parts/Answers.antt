use Rattle.std.proofs.Common.{◌≡◌, ℕ, List, Option, length, map, ap, sym, subst, ◌∙◌}
use Rattle.std.specs.Prelude.{option_copied, All}
use Rattle.folder_change.specs.declared.change.Change.{Change}
use Rattle.folder_change.specs.Outcomes.{base_list}
use Rattle.commit_record.specs.declared.record.Entry.{Entry}
use Rattle.commit_machine.specs.Records.{names_of}
use Rattle.commit_driver.specs.declared.place.Plan.{Plan}
use Rattle.commit_driver.specs.Judging.{JudgesParts, AddsTo}
use Rattle.commit_driver.specs.Holding.{ends_for, held_for, AreHeldOf}
use Rattle.commit_driver.specs.Places.{tails_for, files_of}
use Rattle.commit_driver.proofs.StateLemmas.{length-map}
use Rattle.commit_driver.proofs.WayLemmas.{tails-long}
use Rattle.commit_driver.proofs.HoldingLemmas.{held-long, ends-long, held-first}
use Rattle.commit_driver.proofs.JudgeLemmas.{all-added}
use Rattle.commit_driver.proofs.DecisionLemmas.{makes-files, makes-none}
use Rattle.commit_driver.proofs.answers.make_parts.Goals as goal

abbrev entry_names : List Entry → List (List ℕ)
entry_names es = map (λ (e : Entry). e.name) es

many : (plan : Plan) → length (names_of plan.value) ≡ files_of plan
many plan = length-map (λ (e : Entry). e.name) plan.value.entries

as-many : (plan : Plan) (changes : List Change) (files : List (Option (List ℕ))) (stays : List (Option ℕ)) → length files ≡ files_of plan
    → stays ≡ tails_for changes (names_of plan.value) files → length stays ≡ length files
as-many plan changes files stays long are = ap length are ∙ tails-long changes (names_of plan.value) files (long ∙ sym (many plan))

pub ends_for-requires : goal.ends_for-requires
ends_for-requires c = as-many c.args.plan.now c.args.changes.now c.args.place.now.files c.args.stays.now c.requires.files c.requires.stays ∙ sym (ap length c.items.ensures)

pub let_all_go-requires : goal.let_all_go-requires
let_all_go-requires c = as-many c.args.plan.now c.args.changes.now c.args.place.now.files c.args.stays.now c.requires.files c.requires.stays

pub judge-result-requires-clause-long : goal.judge-result-requires-clause-long
judge-result-requires-clause-long c =
    ap length c.let_all_go.ensures ∙ held-long c.args.place.now.files c.args.stays.now ∙ c.requires.files ∙ sym (ap length c.items-entries.ensures)

pub judge-result-requires-clause-ends : goal.judge-result-requires-clause-ends
judge-result-requires-clause-ends c =
    let all = as-many c.args.plan.now c.args.changes.now c.args.place.now.files c.args.stays.now c.requires.files c.requires.stays in
    ap length (c.items-in-Ok.ensures ∙ c.in-Ok.ensures)
    ∙ ends-long c.items.result.now c.args.stays.now (all ∙ sym (ap length c.items.ensures))
    ∙ ap length c.items.ensures ∙ c.requires.files ∙ sym (ap length c.items-entries.ensures)

pub judge-result-requires-clause-added : goal.judge-result-requires-clause-added
judge-result-requires-clause-added c =
    let changes = c.args.changes.now in
    let names = names_of c.args.plan.now.value in
    subst (λ (es : List Entry). All (AddsTo (entry_names es) c.args.stays.now) changes) (sym c.items-entries.ensures)
    (subst (λ (ss : List (Option ℕ)). All (AddsTo names ss) changes) (sym c.requires.stays) (all-added changes names c.args.place.now.files c.requires.named))

pub write_decision-requires-clause-files : goal.write_decision-requires-clause-files
write_decision-requires-clause-files c =
    c.judge-result.ensures.long ∙ ap length c.let_all_go.ensures ∙ held-long c.args.place.now.files c.args.stays.now ∙ c.requires.files

pub write_decision-requires-clause-tails : goal.write_decision-requires-clause-tails
write_decision-requires-clause-tails c =
    as-many c.args.plan.now c.args.changes.now c.args.place.now.files c.args.stays.now c.requires.files c.requires.stays ∙ c.requires.files

pub returns-in-Ok : goal.returns-in-Ok
returns-in-Ok c =
    let plan = c.args.plan.now in
    let changes = c.args.changes.now in
    let base = base_list (option_copied c.args.base) in
    let old = c.args.place.now in
    let stays = c.args.stays.now in
    let names = names_of plan.value in
    let ends = c.items-in-Ok.result.now in
    let judged = c.judge-result.result in
    let held = c.judge-result.new.files in
    let ends_are : ends ≡ ends_for old.files stays = c.items-in-Ok.ensures ∙ c.in-Ok.ensures ∙ ap (λ (fs : List (Option (List ℕ))). ends_for fs stays) c.items.ensures in
    let first : AreHeldOf stays (ends_for old.files stays) old.files (held_for old.files stays) =
    subst (λ (ss : List (Option ℕ)). AreHeldOf ss (ends_for old.files ss) old.files (held_for old.files ss)) (sym c.requires.stays)
    (held-first changes names old.files (many plan ∙ sym c.requires.files)) in
    let are : AreHeldOf stays ends old.files c.let_all_go.new.files =
    subst (λ (hs : List (Option (List ℕ))). AreHeldOf stays ends old.files hs) (sym c.let_all_go.ensures)
    (subst (λ (es : List (List ℕ)). AreHeldOf stays es old.files (held_for old.files stays)) (sym ends_are) first) in
    makes-files plan changes base old c.write_decision.new.place stays ends judged c.write_decision.result held c.requires.stays (sym (many plan))
    (c.judge-result.ensures.long ∙ ap length c.let_all_go.ensures ∙ held-long old.files stays)
    (subst (λ (es : List Entry). JudgesParts changes base (entry_names es) stays ends old.files judged held) c.items-entries.ensures (c.judge-result.ensures.judged old.files are))
    c.write_decision.ensures

pub returns-in-Err : goal.returns-in-Err
returns-in-Err c = makes-none c.args.plan.now c.args.changes.now (base_list (option_copied c.args.base)) c.args.place.now
