use Rattle.std.proofs.Common.{sym, ◌∙◌}
use Rattle.host_port.proofs.RanLemmas.{Ran-map}
use Rattle.mailx_top.proofs.EndLemmas.{ended-whatever, line-ends}
use Rattle.mailx_top.proofs.WaitingLemmas.{over-ends}
use Rattle.mailx_top.proofs.session.line_or_end.Goals as goal

pub one_line-requires : goal.one_line-requires
one_line-requires g c = (c.is_over.ensures.idle, sym c.is_over.ensures.over ∙ c.if-is_over.false)

pub returns-then-is_over-clause-ran : goal.returns-then-is_over-clause-ran
returns-then-is_over-clause-ran g c = λ env.
    Ran-map (over-ends env c.args.session.now c.args.reader.now _ c.is_over.ensures.idle (sym c.is_over.ensures.over ∙ c.if-is_over.true))
    (c.end_of_input.ensures.ran env c.args.reader.now)

pub returns-then-is_over-clause-progress : goal.returns-then-is_over-clause-progress
returns-then-is_over-clause-progress g c = ended-whatever c.end_of_input.result _ c.end_of_input.ensures.ended

pub returns-then-is_over-clause-plain : goal.returns-then-is_over-clause-plain
returns-then-is_over-clause-plain g c = line-ends c.end_of_input.result c.end_of_input.ensures.line_end
