use Rattle.std.specs.declared.option.Option.{Option}
use Rattle.host_port.proofs.RanLemmas.{Ran-map}
use Rattle.session_state.specs.declared.status.Status.{Status}
use Rattle.mailx_top.proofs.EndLemmas.{caused-line}
use Rattle.mailx_top.proofs.WaitingLemmas.{input-ends}
use Rattle.mailx_top.proofs.session.end_of_input.Goals as goal

pub returns-in-Ok-clause-ran : goal.returns-in-Ok-clause-ran
returns-in-Ok-clause-ran g c = λ env j. Ran-map (λ es ended. input-ends env j c.«end».ensures.idle ended) c.in-Ok.ensures.ran

pub returns-in-Err-clause-ran : goal.returns-in-Err-clause-ran
returns-in-Err-clause-ran g c = λ env j. rw c.stop_of.ensures (Ran-map (λ es ended. input-ends env j c.«end».ensures.idle ended) c.in-Err.ensures.ran)

pub returns-in-Err-clause-cause : goal.returns-in-Err-clause-cause
returns-in-Err-clause-cause g c = rw c.stop_of.ensures
    (caused-line Status (Option Status) (g.H.Host.world.counts c.args.host.now) (g.H.Host.world.counts c.«end».new.host) c.in-Err.error c.in-Err.ensures.cause)
