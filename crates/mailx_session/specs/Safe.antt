-- What the calls of a session leave on the disk, whatever others lawfully do meanwhile and wherever they stop.
use Rattle.std.specs.Prelude.{◌≡◌, ℕ, List, ◌++◌, if◌then◌else◌}
use Rattle.std.specs.declared.option.Option.{Option}
use Rattle.std.specs.declared.option.Option.TheVariants.{Some, None}
use Rattle.std.specs.declared.result.Result.{Result}
use Rattle.std.specs.declared.result.Result.TheVariants.{Ok}
use Rattle.host_port.specs.declared.event.Event.{Event}
use Rattle.host_port.specs.Calls.{World}
use Rattle.host_port.specs.Disk.{Disk, disk}
use Rattle.commit_machine.specs.Lawful.{OthersAreLawful}
use Rattle.folder_commit.specs.Safe.{MayCommit}
use Rattle.session_play.specs.declared.stop.Stop.{Stop}
use Rattle.session_play.specs.Play.{Play, Ret, Next, Go, Last, bind}
use Rattle.play_safety.specs.Passes.{Commits, PassesAll}
use Rattle.play_safety.specs.Safe.{IsCrashSafe, AllAnswersAreDecided}
use Rattle.session_state.specs.declared.frames.WaitingLine.{WaitingLine}
use Rattle.session_state.specs.declared.state.SessionState.{SessionState}
use Rattle.session_state.specs.declared.status.Status.{Status}
use Rattle.session_state.specs.Waits.{Pending}
use Rattle.session_state.specs.States.{is_drafting, next_waiting, resumed, line_ended}
use Rattle.draft_text.specs.declared.draft.Draft.{Draft}
use Rattle.session_asks.specs.Beginning.{composing}
use Rattle.draft_sending.specs.Sending.{ended_draft}
use Rattle.mailx_session.specs.Rounds.{typed_play, waiting_play}
use Rattle.mailx_session.specs.Startup.{startup_play}
use Rattle.mailx_session.specs.Leaving.{leaving}

-- where a call is between two plays: before the draft of send mode; before a line of the input; before a start-up file is loaded; before the lines
-- that wait; at the end of the input, where lines that wait are carried out and drafts end; or after these, where the folder is left
pub data Turn : Type 0 where
  Composing : SessionState → Draft → Turn
  Typed : SessionState → List ℕ → Turn
  Starting : SessionState → List ℕ → Turn
  Waiting : SessionState → Turn
  Finishing : SessionState → Turn
  Leaving : SessionState → Turn

-- a call is over with the next state, or with the end of the run
abbrev pub TurnPlay : Type 0
TurnPlay = Play (Next Turn (Next SessionState Status))

-- a play leads to a turn, unless it ends the run
abbrev pub on_to : (SessionState → Turn) → Next SessionState Status → TurnPlay
on_to turn (Go s) = Ret (Go (turn s))
on_to turn (Last e) = Ret (Last (Last e))

-- the next of the lines that wait is carried out; if none waits the call is over
abbrev pub waiting_turn : SessionState → Option (WaitingLine × List Pending) → TurnPlay
waiting_turn s None = Ret (Last (Go (line_ended s)))
waiting_turn s (Some (line, frames)) = bind (waiting_play (resumed s frames) line) (on_to Waiting)

-- at the end of the input a line that waits is carried out; if none does a draft that is open ends; else the folder is left
abbrev pub finishing_turn : SessionState → Option (WaitingLine × List Pending) → TurnPlay
finishing_turn s None = if is_drafting s then bind (ended_draft s) (on_to Finishing) else Ret (Go (Leaving (line_ended s)))
finishing_turn s (Some (line, frames)) = bind (waiting_play (resumed s frames) line) (on_to Finishing)

-- the play of a turn
abbrev pub turn_play : Turn → TurnPlay
turn_play (Composing s draft) = bind (composing s draft) (λ t. Ret (Last (Go t)))
turn_play (Typed s line) = bind (typed_play s line) (on_to Waiting)
turn_play (Starting s name) = bind (startup_play s name) (on_to Waiting)
turn_play (Waiting s) = waiting_turn s (next_waiting s)
turn_play (Finishing s) = finishing_turn s (next_waiting s)
turn_play (Leaving s) = bind (leaving s) (λ e. Ret (Last (Last e)))

-- The events of a call, steps of others among them, carry out its meaning from a turn on, and with the commits that are read off the same stretches
-- they are crash safe; each commit that was answered as done is decided in its own stretch, before anything is printed of it. If the session goes
-- on, its next call begins on such a disk again.
pub record IsStepSafe (actor : List ℕ) (token : ℕ) (turn : Turn) (d : Disk) (es : List Event) (out : Result (Next SessionState Status) Stop) : Type 0 where
  pub commits : Commits
  pub plays : PassesAll turn_play turn d es commits out
  pub safe : IsCrashSafe actor token d es commits out
  pub answered : AllAnswersAreDecided plays
  pub next : (s : SessionState) → out ≡ Ok (Go s) → (later : List Event) → OthersAreLawful actor token (disk d es) later → MayCommit s.actor s.token (disk d es) later

-- Where the host is told before and after a call, and the disk that stands before the call is one on which the actor of this state may commit under
-- its token, the call is safe.
abbrev pub IsSafeCall : {H : Type 0} → World H → H → H → SessionState → Turn → Result (Next SessionState Status) Stop → Type 0
IsSafeCall w old new s turn out =
    (before es : List Event) → w.told old ≡ Some before → w.told new ≡ Some (before ++ es) → MayCommit s.actor s.token (disk (w.start old) before) es
    → IsStepSafe s.actor s.token turn (disk (w.start old) before) es out
