-- What the draft of a session makes of a line, and of an answer.
use Rattle.std.specs.Prelude.{◌≡◌, ℕ, true, List, IfSome, OnErr}
use Rattle.std.specs.declared.option.Option.{Option}
use Rattle.std.specs.declared.option.Option.TheVariants.{Some, None}
use Rattle.std.specs.declared.result.Result.{Result}
use Rattle.std.specs.declared.result.Result.TheVariants.{Ok, Err}
use Rattle.compose_tilde.specs.declared.machine.Machine.{Machine}
use Rattle.compose_tilde.specs.declared.need.Need.{Need}
use Rattle.compose_tilde.specs.declared.need.Need.TheVariants.{More}
use Rattle.compose_tilde.specs.declared.need.Answer.{Answer}
use Rattle.compose_tilde.specs.declared.need.ComposeError.{ComposeError}
use Rattle.compose_tilde.specs.declared.need.ComposeError.TheVariants as error
use Rattle.compose_tilde.specs.Answering.{idle, answer_step, is_waited_for}
use Rattle.compose_tilde.specs.Laws.{IsWaiting}
use Rattle.compose_tilde.specs.Lines.{line_step}
use Rattle.compose_tilde.specs.Steps.{Step, Means}
use Rattle.compose_tilde.specs.Views.{View}
use Rattle.command_desk.specs.Selecting.{IsListLine}
use Rattle.session_play.specs.Play.{Play, Next}
use Rattle.session_play.specs.Steps.{refused}
use Rattle.session_state.specs.declared.state.SessionState.{SessionState}
use Rattle.session_state.specs.declared.status.Status.{Status}
use Rattle.session_asks.specs.Beginning.{view_in}
use Rattle.mailx_session.specs.Drafting.{escape_fault}

-- the draft, if one is open, waits for this answer
abbrev pub IsAwaited : Option Machine → Answer → Type 0
IsAwaited draft answer = IfSome draft (λ m. is_waited_for m.waits answer ≡ true)

-- the draft waits for each answer to this need
abbrev pub AwaitsAll : Option Machine → Need → Type 0
AwaitsAll draft need = IfSome draft (λ m. IsWaiting m.waits need)

-- the draft became a machine by a step, or memory ran out, or it is as it was, and waits for nothing
pub record IsStepped (result : Result Need ComposeError) (old : Machine) (step : Step) (new : Option Machine) : Type 0 where
  pub machine : Machine
  pub is : new ≡ Some machine
  pub means : Means result machine step
  pub stays : OnErr result (machine ≡ old)

-- nothing was taken, since no draft is open
pub record TookNothing (result : Result Need ComposeError) (new : Option Machine) : Type 0 where
  pub is : new ≡ None
  pub went : result ≡ Ok More

-- the draft, if one is open, took an answer
abbrev pub TookAnswer : Result Need ComposeError → Option Machine → Answer → Option Machine → Type 0
TookAnswer result None answer new = TookNothing result new
TookAnswer result (Some m) answer new = IsStepped result (idle m) (answer_step m answer) new

-- the draft, if one is open, took a line, and waits for no earlier answer any more
abbrev pub TookLine : Result Need ComposeError → Option Machine → List ℕ → View → Option Machine → Type 0
TookLine result None line view new = TookNothing result new
TookLine result (Some m) line view new = IsStepped result (idle m) (line_step (idle m) line view) new

-- the draft that is open refuses a line
pub record RefusesLine (s : SessionState) (line : List ℕ) : Type 0 where
  pub machine : Machine
  pub fault : ComposeError
  pub draft : s.draft ≡ Some machine
  pub refused : line_step (idle machine) line (view_in s) ≡ Err fault

-- the line by which an escape is refused; none if memory ran out
abbrev pub IsEscapeFault : ComposeError → List ℕ → Type 0
IsEscapeFault error.Memory line = ⊥
IsEscapeFault (error.List e) line = IsListLine e line
IsEscapeFault e line = line ≡ escape_fault e

-- the play prints the line by which an escape is refused, whatever it is, and nothing else
abbrev pub SaysFault : ComposeError → SessionState → Play (Next SessionState Status) → Type 0
SaysFault e s p = (line : List ℕ) → IsEscapeFault e line → p ≡ refused s line
