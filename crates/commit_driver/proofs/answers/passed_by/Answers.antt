use Rattle.std.proofs.Common.{List, ℕ, true, false, nat_eq, ap, sym, ◌∙◌}
use Rattle.std.specs.List.{starts_with}
use Rattle.commit_driver.proofs.FrontLemmas.{passed-so}
use Rattle.commit_driver.proofs.answers.passed_by.Goals as goal

pub returns-then-starts_with : goal.returns-then-starts_with
returns-then-starts_with c =
    let front = c.split_at.result.0.now in
    let begins = ap (λ (bytes : List ℕ). starts_with nat_eq bytes front) (sym c.bytes.ensures) ∙ sym c.starts_with.ensures.value ∙ c.if-starts_with.true in
    rw c.in-Some.is (passed-so c.in-Some.text.now front c.args.go.now c.min.result true c.min.ensures c.split_at.ensures.front begins)

pub returns-else-starts_with : goal.returns-else-starts_with
returns-else-starts_with c =
    let front = c.split_at.result.0.now in
    let begins = ap (λ (bytes : List ℕ). starts_with nat_eq bytes front) (sym c.bytes.ensures) ∙ sym c.starts_with.ensures.value ∙ c.if-starts_with.false in
    rw c.in-Some.is (passed-so c.in-Some.text.now front c.args.go.now c.min.result false c.min.ensures c.split_at.ensures.front begins)
