use Rattle.std.specs.Prelude.{◌≡◌, false}
use Rattle.host_port.specs.Ran.{Ran}
use Rattle.session_state.specs.States.{IsSession, is_drafting}
use Rattle.mailx_session.proofs.FinishLemmas.{open_weight, EndsSoFar}
use Rattle.mailx_session.proofs.finishing.finish.Given as goal

abbrev pub invariant-drafts : goal.invariant-drafts
invariant-drafts g l = record {
  session : IsSession l.state;
  ran : Ran g.H.Host.world l.fn.host l.host (EndsSoFar l.fn.state l.state);
  same : is_drafting l.fn.state ≡ false → l.state ≡ l.fn.state;
}

abbrev pub decreases-drafts : goal.decreases-drafts
decreases-drafts g l = open_weight l.state
