use Rattle.std.specs.Prelude.{◌≡◌, ◌≤◌, ◌<◌, true, false, []}
use Rattle.host_port.specs.Ran.{Ran}
use Rattle.session_state.specs.States.{IsState, is_drafting}
use Rattle.session_state.specs.Bringing.{weight}
use Rattle.mailx_session.specs.Startup.{WaitsInStartup}
use Rattle.mailx_session.proofs.RoundLemmas.{WaitsSoFar}
use Rattle.mailx_session.proofs.lines.waiting_lines.Given as goal

abbrev pub invariant-lines : goal.invariant-lines
invariant-lines g l = record {
  state : IsState l.state;
  ran : Ran g.H.Host.world l.fn.host l.host (WaitsSoFar l.fn.state l.state);
  nothing : l.fn.state.frames ≡ [] → l.state ≡ l.fn.state;
  drafting : is_drafting l.fn.state ≡ true → l.state ≡ l.fn.state;
  light : weight l.state ≤ weight l.fn.state;
  startup : WaitsInStartup l.fn.state → WaitsInStartup l.state;
  lighter : is_drafting l.fn.state ≡ false → is_drafting l.state ≡ true → weight l.state < weight l.fn.state;
}

abbrev pub decreases-lines : goal.decreases-lines
decreases-lines g l = weight l.state
