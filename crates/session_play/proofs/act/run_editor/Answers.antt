use Rattle.host_port.proofs.RanLemmas.{called, edited-counted}
use Rattle.std.specs.declared.result.Result.TheVariants.{Ok, Err}
use Rattle.host_port.specs.declared.host.ChildError.TheVariants as child_error
use Rattle.session_play.proofs.ActLemmas.{editor-ran, editor-failed, editor-memory}
use Rattle.session_play.proofs.act.run_editor.Goals as goal

pub returns-in-Ok-clause-ran : goal.returns-in-Ok-clause-ran
returns-in-Ok-clause-ran g c = called (editor-ran c.args.name.now c.args.shell.now c.args.command.now c.args.text.now _)
    (edited-counted c.args.name.now c.args.shell.now c.args.command.now c.args.text.now (Ok _) _ _ c.in-Ok.ensures.cause) c.edit.ensures.start c.edit.ensures.counts c.in-Ok.ensures.call

pub returns-in-Err-Failed-clause-ran : goal.returns-in-Err-Failed-clause-ran
returns-in-Err-Failed-clause-ran g c = called (editor-failed c.args.name.now c.args.shell.now c.args.command.now c.args.text.now)
    (edited-counted c.args.name.now c.args.shell.now c.args.command.now c.args.text.now (Err child_error.Failed) _ _
    (rw c.in-Err-Failed.field-0-is at c.in-Err-Failed.ensures.cause)) c.edit.ensures.start c.edit.ensures.counts (rw c.in-Err-Failed.field-0-is at c.in-Err-Failed.ensures.call)

pub returns-in-Err-Memory-clause-ran : goal.returns-in-Err-Memory-clause-ran
returns-in-Err-Memory-clause-ran g c = called (editor-memory c.args.name.now c.args.shell.now c.args.command.now c.args.text.now)
    (edited-counted c.args.name.now c.args.shell.now c.args.command.now c.args.text.now
    (Err child_error.Memory) _ _ tt) c.edit.ensures.start c.edit.ensures.counts (rw c.in-Err-Memory.field-0-is at c.in-Err-Memory.ensures.call)
