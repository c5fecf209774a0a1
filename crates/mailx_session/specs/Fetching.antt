-- What is fetched from outside, stage by stage.
use Rattle.std.specs.Prelude.{◌≡◌, ◌<◌, ℕ, List, Option, if◌then◌else◌}
use Rattle.host_port.specs.declared.event.ChildAnswer.{ChildAnswer}
use Rattle.host_port.specs.declared.event.EditAnswer.{EditAnswer}
use Rattle.mailx_vars.specs.Names.{is_short_name}
use Rattle.compose_tilde.specs.declared.need.Need.{Need}
use Rattle.compose_tilde.specs.declared.need.Need.TheVariants as need
use Rattle.compose_tilde.specs.declared.need.Answer.TheVariants as given
use Rattle.session_play.specs.declared.act.Found.{Found}
use Rattle.session_play.specs.Play.{Play, Ret, Ask, Try, Next, Go}
use Rattle.session_play.specs.Steps.{refused}
use Rattle.command_desk.specs.Faults.{bad_name}
use Rattle.session_state.specs.declared.flow.Flow.{Flow}
use Rattle.session_state.specs.declared.flow.Flow.TheVariants as flow
use Rattle.session_state.specs.declared.state.SessionState.{SessionState}
use Rattle.session_state.specs.declared.status.Status.{Status}
use Rattle.session_state.specs.Placing.{placed}
use Rattle.session_state.specs.States.{IsState}
use Rattle.activities.specs.declared.call.Answer.{Answer}
use Rattle.activities.specs.declared.call.Answer.TheVariants as answer
use Rattle.activities.specs.declared.call.Turn.{Turn}
use Rattle.activities.specs.Acting.{Reply, Loaded, Ran, Edited, Leads}
use Rattle.mailx_session.specs.declared.fetching.Fetching.{Fetching}
use Rattle.mailx_session.specs.declared.fetching.Stage.{Stage}
use Rattle.mailx_session.specs.declared.fetching.Stage.TheVariants as stage
use Rattle.mailx_session.specs.Drafting.{after_child, after_edit, after_fetch}
use Rattle.mailx_session.specs.Startup.{after_startup, WaitsInStartup}
use Rattle.mailx_session.specs.Taking.{IsAwaited}

-- what follows the load of a file that is said by this name
abbrev pub loaded_at : Stage → SessionState → List ℕ → Option Found → Play (Next SessionState Status)
loaded_at stage.ForStart s name found = after_startup s name found
loaded_at st s name found = after_fetch s name found

-- the file of this name is loaded, if the name can be a file's
abbrev pub loaded_by : Stage → SessionState → List ℕ → Play (Next SessionState Status)
loaded_by st s name = if is_short_name (placed s.here name) then Ask (Try (placed s.here name)) (loaded_at st s name) else refused s (bad_name name)

-- what follows the reply to what was asked for
abbrev pub follows : Fetching → SessionState → Reply → Play (Next SessionState Status)
follows e s (Loaded found) = loaded_at e.stage s e.name found
follows e s (Ran a) = after_child s a
follows e s (Edited a) = after_edit s a
follows e s reply = Ret (Go s)

-- the most calls that follow the one that a stage waits for
abbrev pub most_at : Stage → ℕ
most_at stage.Asking = 2
most_at stage.ForDraft = 1
most_at stage.ForStart = 1
most_at stage.Telling = 0

abbrev pub most : Fetching → ℕ
most e = most_at e.stage

-- a file is loaded for a draft that waits for it, or at the start
abbrev pub AwaitsText : Stage → SessionState → Type 0
AwaitsText stage.ForStart s = Unit {0}
AwaitsText st s = (bytes : List ℕ) → IsAwaited s.draft (given.Loaded bytes)

-- the answer can be taken: the draft waits for it, and one call may follow; no commit is asked for
abbrev pub Takes : Fetching → SessionState → Answer → Type 0
Takes e s (answer.Loaded found) = (0 < most e) × AwaitsText e.stage s
Takes e s (answer.Ran a) = (0 < most e) × ((a : ChildAnswer) → IsAwaited s.draft (given.Ran a))
Takes e s (answer.Edited a) = (0 < most e) × ((a : EditAnswer) → IsAwaited s.draft (given.Edited a))
Takes e s (answer.Committed asked) = ⊥
Takes e s a = Unit {0}

-- the session goes on
abbrev pub Ends : Flow → Type 0
Ends went = went ≡ flow.Go

-- A valid state stays valid, and if only lines of start-up files wait that stays so.
pub record Changes (s t : SessionState) : Type 0 where
  pub state : IsState s → IsState t
  pub waits : WaitsInStartup s → WaitsInStartup t

pub changes_stay : (s : SessionState) → Changes s s
changes_stay s = record { state = λ is. is; waits = λ waits. waits }

pub changes_joined : (s t u : SessionState) → Changes s t → Changes t u → Changes s u
changes_joined s t u first second = record { state = λ is. second.state (first.state is); waits = λ waits. second.waits (first.waits waits) }

pub changes_valid : (s t : SessionState) → Changes s t → IsState s → IsState t
changes_valid s t changes is = changes.state is

-- from a turn on this play is left, with at most n calls
abbrev pub LeadsTo : ℕ → Play (Next SessionState Status) → Fetching → SessionState → Turn → Type 0
LeadsTo n play e s turn = Leads n play (follows e s) (Takes e s) Ends (most e) s turn

-- what a draft needs that is fetched, or only printed
abbrev pub IsFetched : Need → Type 0
IsFetched (need.Command line) = ⊥
IsFetched (need.Put name bytes) = ⊥
IsFetched need.Done = ⊥
IsFetched need.Quit = ⊥
IsFetched need.Drop = ⊥
IsFetched n = Unit {0}
