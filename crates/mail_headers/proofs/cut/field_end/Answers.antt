use Rattle.std.proofs.Common.{sym, ◌∙◌}
use Rattle.mail_headers.proofs.CutLemmas.{IsInField-more, IsFieldEnd-last, IsFieldEnd-unfolded}
use Rattle.mail_headers.proofs.cut.field_end.Goals as goal

pub loop-end-preserved : goal.loop-end-preserved
loop-end-preserved c =
    let line = rw c.split_at.ensures.back at c.line_length.ensures in
    IsInField-more c.args.text.now c.args.first_line_end c.loop-end.end c.line_length.result c.loop-end.invariant c.loop-end-test.true (sym c.is_blank.ensures ∙ c.if-is_blank.true) line

pub returns-else-is_blank : goal.returns-else-is_blank
returns-else-is_blank c = IsFieldEnd-unfolded c.args.text.now c.args.first_line_end c.loop-end.end c.loop-end.invariant c.loop-end-test.true (sym c.is_blank.ensures ∙ c.if-is_blank.false)

pub returns-after-loop-end : goal.returns-after-loop-end
returns-after-loop-end c = IsFieldEnd-last c.args.text.now c.args.first_line_end c.loop-end.end c.loop-end.invariant c.loop-end-test.false
