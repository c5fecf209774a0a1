use Rattle.std.proofs.Common.{sym, ap, ◌∙◌}
use Rattle.mail_headers.specs.Field.{trim_start}
use Rattle.compose_tilde.proofs.BlankLemmas.{start-none, start-blank, start-kept}
use Rattle.compose_tilde.proofs.reading.without_first_blanks.Goals as goal

pub returns-then-not-is_blank : goal.returns-then-not-is_blank
returns-then-not-is_blank c =
    let cut = c.in-Some.ensures.cases.0 in
    cut
    ∙ sym (start-kept c.in-Some.first.now c.in-Some.after.now (sym c.is_blank.ensures ∙ c.if-not-is_blank.true))
    ∙ ap trim_start (sym cut)
    ∙ c.loop-first.invariant

pub loop-first-preserved : goal.loop-first-preserved
loop-first-preserved c =
    sym (start-blank c.in-Some.first.now c.in-Some.after.now (sym c.is_blank.ensures ∙ c.if-not-is_blank.false))
    ∙ ap trim_start (sym c.in-Some.ensures.cases.0)
    ∙ c.loop-first.invariant

pub returns : goal.returns
returns c = start-none c.loop-first.rest.now c.in_default.ensures.cases ∙ c.loop-first.invariant
