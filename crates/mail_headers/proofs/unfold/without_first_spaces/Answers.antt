use Rattle.std.proofs.Common.{ℕ, List, sym, ap, ◌∙◌}
use Rattle.mail_headers.specs.Field.{without_feeds, trim_start}
use Rattle.mail_headers.proofs.UnfoldLemmas.{IsFlat-after, trim_start-space, trim_start-kept, trim_start-empty}
use Rattle.mail_headers.proofs.unfold.without_first_spaces.Goals as goal

pub returns-then-not-is_space-clause-value : goal.returns-then-not-is_space-clause-value
returns-then-not-is_space-clause-value c =
    let cut = c.in-Some.ensures.cases.0 in
    ap without_feeds cut
    ∙ sym (trim_start-kept c.in-Some.first.now c.in-Some.after.now (sym c.is_space.ensures ∙ c.if-not-is_space.true))
    ∙ ap (λ (l : List ℕ). trim_start (without_feeds l)) (sym cut)
    ∙ c.loop-first.invariant.0

pub loop-first-preserved : goal.loop-first-preserved
loop-first-preserved c = (
  sym (trim_start-space c.in-Some.first.now c.in-Some.after.now (sym c.is_space.ensures ∙ c.if-not-is_space.false))
      ∙ ap (λ (l : List ℕ). trim_start (without_feeds l)) (sym c.in-Some.ensures.cases.0)
      ∙ c.loop-first.invariant.0,
  λ flat. IsFlat-after c.in-Some.first.now c.in-Some.after.now c.loop-first.rest.now c.in-Some.ensures.cases.0 (c.loop-first.invariant.1 flat),
)

pub returns-clause-value : goal.returns-clause-value
returns-clause-value c = trim_start-empty c.loop-first.rest.now c.in_default.ensures.cases ∙ c.loop-first.invariant.0
