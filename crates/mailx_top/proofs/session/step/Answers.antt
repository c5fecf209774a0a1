use Rattle.std.specs.declared.option.Option.{Option}
use Rattle.session_state.specs.declared.flow.Flow.{Flow}
use Rattle.session_state.specs.declared.status.Status.{Status}
use Rattle.mailx_top.proofs.EndLemmas.{caused-line}
use Rattle.mailx_top.proofs.session.step.Goals as goal

pub returns-in-Ok-Go-clause-ran : goal.returns-in-Ok-Go-clause-ran
returns-in-Ok-Go-clause-ran g c = rw c.in-Ok-Go.field-0-is at c.in-Ok-Go.ensures.ran

pub returns-in-Ok-End-clause-ran : goal.returns-in-Ok-End-clause-ran
returns-in-Ok-End-clause-ran g c = rw c.in-Ok-End.field-0-is at c.in-Ok-End.ensures.ran

pub returns-in-Err-clause-ran : goal.returns-in-Err-clause-ran
returns-in-Err-clause-ran g c = rw c.stop_of.ensures c.in-Err.ensures.ran

pub returns-in-Err-clause-cause : goal.returns-in-Err-clause-cause
returns-in-Err-clause-cause g c = rw c.stop_of.ensures
    (caused-line Flow (Option Status) (g.H.Host.world.counts c.args.host.now) (g.H.Host.world.counts c.step.new.host) c.in-Err.error c.in-Err.ensures.cause)
