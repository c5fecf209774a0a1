use Rattle.host_port.proofs.RanLemmas.{Ran-then, Ran-map}
use Rattle.mailx_top.proofs.EndLemmas.{ended-whatever, line-ends}
use Rattle.mailx_top.proofs.WaitingLemmas.{step-leads, end-leads, take-cut-leads}
use Rattle.mailx_top.proofs.session.next_line.Goals as goal

pub returns-in-Ok-Some-clause-ran : goal.returns-in-Ok-Some-clause-ran
returns-in-Ok-Some-clause-ran g c = λ env.
    Ran-then (step-leads env c.args.session.now c.step.new.session c.args.reader.now c.line.new.self c.in-Ok-Some.line c.step.result c.requires)
    (rw c.in-Ok-Some.field-0-is at c.in-Ok-Some.ensures.ran) (rw c.bytes.ensures at c.step.ensures.ran)

pub returns-in-Ok-None-clause-ran : goal.returns-in-Ok-None-clause-ran
returns-in-Ok-None-clause-ran g c = λ env.
    Ran-then (end-leads env c.args.session.now c.args.reader.now c.line.new.self _ c.requires)
    (rw c.in-Ok-None.field-0-is at c.in-Ok-None.ensures.ran) (c.end_of_input.ensures.ran env c.line.new.self)

pub returns-in-Ok-None-clause-progress : goal.returns-in-Ok-None-clause-progress
returns-in-Ok-None-clause-progress g c = ended-whatever c.end_of_input.result _ c.end_of_input.ensures.ended

pub returns-in-Ok-Some-clause-plain : goal.returns-in-Ok-Some-clause-plain
returns-in-Ok-Some-clause-plain g c = line-ends c.step.result c.step.ensures.line_end

pub returns-in-Ok-None-clause-plain : goal.returns-in-Ok-None-clause-plain
returns-in-Ok-None-clause-plain g c = line-ends c.end_of_input.result c.end_of_input.ensures.line_end

pub returns-in-Err-clause-ran : goal.returns-in-Err-clause-ran
returns-in-Err-clause-ran g c = λ env.
    Ran-map (take-cut-leads env c.args.session.now c.args.reader.now c.in-Err.cause c.requires) (rw c.in-Err.is at c.line.ensures.ran)
