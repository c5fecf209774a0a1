use Rattle.std.proofs.Common.{◌≡◌, ◌-◌, ◌+◌, ◌<◌, List, [], ◌∷◌, ◌++◌, ℕ, ap, sym, ◌∙◌, arith}
use Rattle.commit_record.specs.Reading.{entries_at}
use Rattle.commit_record.specs.declared.record.Entry.{Entry}
use Rattle.commit_record.proofs.ReadingLemmas.{entries_at-none, entries_at-more, entries_at-end}
use Rattle.commit_record.proofs.reader.entries_at.Goals as goal

pub returns-in-None : goal.returns-in-None
returns-in-None c =
    let left : 0 < c.args.count - c.loop-line._line = omega arith in
    sym (entries_at-none (c.args.count - c.loop-line._line) c.loop-line.entries c.loop-line.rest.now left (sym c.in-None.ensures)) ∙ c.loop-line.invariant

pub loop-line-preserved : goal.loop-line-preserved
loop-line-preserved c =
    let k = c.args.count - (c.loop-line._line + 1) in
    let left : c.args.count - c.loop-line._line ≡ k + 1 = omega arith in
    let named = λ (name : List ℕ). (let e : Entry = record { kind = c.in-Some.kind; at = c.in-Some.at; name = name } in e) in
    let put = c.in_ok-push-in-Some.ensures.ok ∙ ap (λ (name : List ℕ). c.loop-line.entries ++ named name ∷ []) c.in_ok-name-in-Some.ensures in
    ap (λ (es : List Entry). entries_at k es c.in-Some.after.now) put
    ∙ sym (entries_at-more (c.args.count - c.loop-line._line) k c.loop-line.entries c.loop-line.rest.now (named c.in-Some.name.now) c.in-Some.after.now left (sym c.in-Some.ensures))
    ∙ c.loop-line.invariant

pub returns : goal.returns
returns c =
    let none : c.args.count - c.loop-line._line ≡ 0 = omega arith in
    sym (entries_at-end (c.args.count - c.loop-line._line) c.loop-line.entries c.loop-line.rest.now none) ∙ c.loop-line.invariant
