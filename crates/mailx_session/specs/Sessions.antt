-- What a session does with a command.
use Rattle.std.specs.Prelude.{◌≡◌}
use Rattle.std.specs.declared.result.Result.{Result}
use Rattle.std.specs.declared.result.Result.TheVariants.{Ok, Err}
use Rattle.session_play.specs.Play.{Play, Next, bind}
use Rattle.session_play.specs.Steps.{in_order, refused, concluded}
use Rattle.command_desk.specs.declared.steps.Steps.{Steps}
use Rattle.command_desk.specs.Answers.{OrFault}
use Rattle.session_state.specs.declared.error.RunError.{RunError}
use Rattle.session_state.specs.declared.flow.Flow.{Flow}
use Rattle.session_state.specs.declared.flow.Flow.TheVariants as flow
use Rattle.session_state.specs.declared.state.SessionState.{SessionState}
use Rattle.session_state.specs.declared.status.Status.{Status}
use Rattle.session_state.specs.States.{settled}
use Rattle.session_asks.specs.Asks.{asked}

-- a command's steps are carried out, or the line that refuses it is printed
abbrev pub carried_out : SessionState → OrFault Steps → Play (Next SessionState Status)
carried_out s (Ok steps) = bind (in_order asked s steps.asks) (concluded s (λ t. settled t steps.effects))
carried_out s (Err line) = refused s line

-- if the run ends, the state stays
abbrev pub StaysAtEnd : SessionState → SessionState → Flow → Type 0
StaysAtEnd old new flow.Go = Unit {0}
StaysAtEnd old new (flow.End s) = new ≡ old

-- nothing is done, and the session goes on
abbrev pub DoesNothing : SessionState → SessionState → Result Flow RunError → Type 0
DoesNothing old new (Ok went) = (new ≡ old) × (went ≡ flow.Go)
DoesNothing old new (Err e) = ⊥
