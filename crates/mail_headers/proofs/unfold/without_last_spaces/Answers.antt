use Rattle.std.proofs.Common.{ℕ, List, sym, ap, ◌∙◌}
use Rattle.mail_headers.specs.Field.{without_feeds, trim_end}
use Rattle.mail_headers.proofs.UnfoldLemmas.{IsFlat-before, trim_end-space, trim_end-kept, trim_end-empty}
use Rattle.mail_headers.proofs.unfold.without_last_spaces.Goals as goal

pub returns-then-not-is_space-clause-value : goal.returns-then-not-is_space-clause-value
returns-then-not-is_space-clause-value c =
    let cut = c.in-Some.ensures.cases.0 in
    ap without_feeds cut
    ∙ sym (trim_end-kept c.in-Some.before.now c.in-Some.last.now (sym c.is_space.ensures ∙ c.if-not-is_space.true))
    ∙ ap (λ (l : List ℕ). trim_end (without_feeds l)) (sym cut)
    ∙ c.loop-last.invariant.0

pub loop-last-preserved : goal.loop-last-preserved
loop-last-preserved c = (
  sym (trim_end-space c.in-Some.before.now c.in-Some.last.now (sym c.is_space.ensures ∙ c.if-not-is_space.false))
      ∙ ap (λ (l : List ℕ). trim_end (without_feeds l)) (sym c.in-Some.ensures.cases.0)
      ∙ c.loop-last.invariant.0,
  λ flat. IsFlat-before c.in-Some.last.now c.in-Some.before.now c.loop-last.rest.now c.in-Some.ensures.cases.0 (c.loop-last.invariant.1 flat),
)

pub returns-clause-value : goal.returns-clause-value
returns-clause-value c = trim_end-empty c.loop-last.rest.now c.in_default.ensures.cases ∙ c.loop-last.invariant.0
