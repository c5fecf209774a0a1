use Rattle.std.proofs.Common.{◌≡◌, ℕ, List, map, Err, arith, ap, sym, subst, ◌∙◌}
use Rattle.std.specs.Prelude.{option_copied}
use Rattle.std.specs.declared.result.Result.{Result}
use Rattle.std.proofs.lemmas.Result.{err_from_is_err_and}
use Rattle.folder_change.specs.Outcomes.{base_list}
use Rattle.commit_record.specs.declared.record.Entry.{Entry}
use Rattle.commit_driver.specs.declared.judge.Trouble.{Trouble}
use Rattle.commit_driver.specs.Judging.{JudgesParts, number_in}
use Rattle.commit_driver.proofs.StateLemmas.{length-map}
use Rattle.commit_driver.proofs.JudgeLemmas.{at-below, parts-start, parts-end, parts-next, parts-not}
use Rattle.commit_driver.proofs.judge.judge.Goals as goal

abbrev names_of : List Entry → List (List ℕ)
names_of es = map (λ (e : Entry). e.name) es

pub loop-change-init : goal.loop-change-init
loop-change-init c = parts-start c.args.changes.now (base_list (option_copied c.args.base)) (names_of c.args.entries.now) c.args.stays.now c.args.ends.now c.args.files.now

pub bounds-ends-at : goal.bounds-ends-at
bounds-ends-at c =
    let below = at-below c.args.changes.now (base_list (option_copied c.args.base))
    (names_of c.args.entries.now) c.args.files.now c.loop-change.files c.loop-change.files c.loop-change.change-index c.number_of-at.result c.change-item.result
    (omega arith) c.change-item.is c.requires.named (c.number_of-at.ensures.number ∙ ap (number_in (names_of c.args.entries.now)) c.change_name.ensures) in
    omega (arith, below, c.requires.ends, length-map (λ (e : Entry). e.name) c.args.entries.now)

pub judge_one-requires-clause-at : goal.judge_one-requires-clause-at
judge_one-requires-clause-at c =
    let below = at-below c.args.changes.now (base_list (option_copied c.args.base))
    (names_of c.args.entries.now) c.args.files.now c.loop-change.files c.loop-change.files c.loop-change.change-index c.number_of-at.result c.change-item.result
    (omega arith) c.change-item.is c.requires.named (c.number_of-at.ensures.number ∙ ap (number_in (names_of c.args.entries.now)) c.change_name.ensures) in
    omega (arith, below, c.loop-change.invariant.long, c.requires.long, length-map (λ (e : Entry). e.name) c.args.entries.now)

pub loop-change-preserved : goal.loop-change-preserved
loop-change-preserved c =
    let number = c.number_of-at.ensures.number ∙ ap (number_in (names_of c.args.entries.now)) c.change_name.ensures in
    let below = at-below c.args.changes.now (base_list (option_copied c.args.base))
    (names_of c.args.entries.now) c.args.files.now c.loop-change.files c.loop-change.files c.loop-change.change-index c.number_of-at.result c.change-item.result
    (omega arith) c.change-item.is c.requires.named number in
    parts-next c.args.changes.now (base_list (option_copied c.args.base)) (names_of c.args.entries.now) c.args.stays.now c.args.ends.now c.args.files.now
    c.loop-change.files c.loop-change.change-index c.number_of-at.result c.change-item.result (omega arith) c.change-item.is c.requires.named number
    (omega (arith, below, c.loop-change.invariant.long, c.requires.long, length-map (λ (e : Entry). e.name) c.args.entries.now))
    c.own_tail.result c.bytes-end.result.now c.index-ends-at.result c.own_tail.ensures (c.bytes-end.ensures ∙ c.index-ends-at.is)
    c.loop-change.invariant c.judge_one.new.files c.in_ok-judge_one.field-0 c.in_ok-judge_one.ensures.long c.in_ok-judge_one.ensures.one

pub returns-in_err-judge_one-clause-judged : goal.returns-in_err-judge_one-clause-judged
returns-in_err-judge_one-clause-judged c = λ wholes are.
    let names = names_of c.args.entries.now in
    let base = base_list (option_copied c.args.base) in
    let p = err_from_is_err_and c.from_residual.result c.from_residual.ensures.1 in
    let is : c.from_residual.result ≡ Err c.in_err-judge_one.field-0.0 = p.1 ∙ ap (λ (t : Trouble). Err t) p.2 in
    let number = c.number_of-at.ensures.number ∙ ap (number_in names) c.change_name.ensures in
    let below = at-below c.args.changes.now base names c.args.files.now c.loop-change.files c.loop-change.files c.loop-change.change-index c.number_of-at.result c.change-item.result
    (omega arith) c.change-item.is c.requires.named number in
    subst (λ (r : Result Unit Trouble). JudgesParts c.args.changes.now base names c.args.stays.now c.args.ends.now wholes r c.judge_one.new.files) (sym is)
    (parts-not c.args.changes.now base names c.args.stays.now c.args.ends.now c.args.files.now
    c.loop-change.files c.loop-change.change-index c.number_of-at.result c.change-item.result (omega arith) c.change-item.is c.requires.named number
    (omega (arith, below, c.loop-change.invariant.long, c.requires.long, length-map (λ (e : Entry). e.name) c.args.entries.now))
    c.own_tail.result c.bytes-end.result.now c.index-ends-at.result c.own_tail.ensures (c.bytes-end.ensures ∙ c.index-ends-at.is)
    c.loop-change.invariant c.judge_one.new.files wholes c.in_err-judge_one.field-0.0 c.in_err-judge_one.ensures.one are)

pub returns-clause-judged : goal.returns-clause-judged
returns-clause-judged c = λ wholes are.
    parts-end c.args.changes.now (base_list (option_copied c.args.base)) (names_of c.args.entries.now) c.args.stays.now c.args.ends.now c.args.files.now c.loop-change.files wholes
    c.loop-change.change-index (omega arith) c.loop-change.invariant are
