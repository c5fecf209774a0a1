use Rattle.std.proofs.Common.{sym, ap, ◌∙◌}
use Rattle.mail_headers.specs.Field.{trim_end}
use Rattle.compose_tilde.proofs.BlankLemmas.{end-none, end-blank, end-kept}
use Rattle.compose_tilde.proofs.reading.without_last_blanks.Goals as goal

pub returns-then-not-is_blank : goal.returns-then-not-is_blank
returns-then-not-is_blank c =
    let cut = c.in-Some.ensures.cases.0 in
    cut
    ∙ sym (end-kept c.in-Some.before.now c.in-Some.last.now (sym c.is_blank.ensures ∙ c.if-not-is_blank.true))
    ∙ ap trim_end (sym cut)
    ∙ c.loop-last.invariant

pub loop-last-preserved : goal.loop-last-preserved
loop-last-preserved c =
    sym (end-blank c.in-Some.before.now c.in-Some.last.now (sym c.is_blank.ensures ∙ c.if-not-is_blank.false))
    ∙ ap trim_end (sym c.in-Some.ensures.cases.0)
    ∙ c.loop-last.invariant

pub returns : goal.returns
returns c = end-none c.loop-last.rest.now c.in_default.ensures.cases ∙ c.loop-last.invariant
