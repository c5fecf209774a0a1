use Rattle.host_port.proofs.RanLemmas.{called, child-counted}
use Rattle.std.specs.declared.result.Result.TheVariants.{Ok, Err}
use Rattle.host_port.specs.declared.host.ChildError.TheVariants as child_error
use Rattle.session_play.proofs.ActLemmas.{child-ran, child-failed, child-memory}
use Rattle.session_play.proofs.act.run_child.Goals as goal

pub returns-in-Ok-clause-ran : goal.returns-in-Ok-clause-ran
returns-in-Ok-clause-ran g c = called (child-ran c.args.program.now c.args.args.now c.args.input.now _)
    (child-counted c.args.program.now c.args.args.now c.args.input.now (Ok _) _ _ c.in-Ok.ensures.cause) c.child.ensures.start c.child.ensures.counts c.in-Ok.ensures.call

pub returns-in-Err-Failed-clause-ran : goal.returns-in-Err-Failed-clause-ran
returns-in-Err-Failed-clause-ran g c = called (child-failed c.args.program.now c.args.args.now c.args.input.now)
    (child-counted c.args.program.now c.args.args.now c.args.input.now (Err child_error.Failed) _ _
    (rw c.in-Err-Failed.field-0-is at c.in-Err-Failed.ensures.cause)) c.child.ensures.start c.child.ensures.counts (rw c.in-Err-Failed.field-0-is at c.in-Err-Failed.ensures.call)

pub returns-in-Err-Memory-clause-ran : goal.returns-in-Err-Memory-clause-ran
returns-in-Err-Memory-clause-ran g c = called (child-memory c.args.program.now c.args.args.now c.args.input.now)
    (child-counted c.args.program.now c.args.args.now c.args.input.now (Err child_error.Memory) _ _ tt) c.child.ensures.start c.child.ensures.counts
    (rw c.in-Err-Memory.field-0-is at c.in-Err-Memory.ensures.call)
