use Rattle.host_port.specs.Calls.{NeverFall}
use Rattle.host_port.specs.Ran.{Ran}
use Rattle.session_play.specs.Input.{left}
use Rattle.mail_delivery.specs.declared.environment.Environment.{Environment}
use Rattle.mail_delivery.specs.declared.words.Request.{Request}
use Rattle.mail_delivery.proofs.StepLemmas.{TookSome}
use Rattle.mail_delivery.proofs.delivery.take_body.Given as goal

abbrev pub invariant-lines : goal.invariant-lines
invariant-lines g l = record {
  fall : NeverFall (g.H.Host.world.counts l.fn.host) (g.H.Host.world.counts l.host);
  ran : (request : Request) (env : Environment) → Ran g.H.Host.world l.fn.host l.host (TookSome request env l.reader l.body.items);
}

abbrev pub decreases-lines : goal.decreases-lines
decreases-lines g l = left l.reader
