use Rattle.host_port.specs.Calls.{NeverFall}
use Rattle.host_port.specs.Ran.{Ran}
use Rattle.session_play.specs.Input.{left, no_input}
use Rattle.mailx_top.specs.declared.environment.Environment.{Environment}
use Rattle.mailx_top.specs.Meaning.{round, Reading}
use Rattle.session_play.proofs.LoopLemmas.{SoFar}
use Rattle.mailx_top.proofs.session.lines.Given as goal

abbrev pub invariant-lines : goal.invariant-lines
invariant-lines g l = record {
  fall : NeverFall (g.H.Host.world.counts l.fn.host) (g.H.Host.world.counts l.host);
  ran : (env : Environment) → Ran g.H.Host.world l.fn.host l.host
      (SoFar (round env) (Reading l.fn.session no_input) (Reading l.session l.reader));
}

abbrev pub decreases-lines : goal.decreases-lines
decreases-lines g l = left l.reader
