-- The end of the input.
use Rattle.std.specs.Prelude.{◌≡◌, List, ◌++◌}
use Rattle.std.specs.declared.result.Result.{Result}
use Rattle.std.specs.declared.result.Result.TheVariants.{Ok, Err}
use Rattle.host_port.specs.declared.event.Event.{Event}
use Rattle.session_play.specs.declared.stop.Stop.{Stop}
use Rattle.session_play.specs.Play.{Play, Ret, Ask, Say, Go, Last, Goes, bind}
use Rattle.session_play.specs.Steps.{After, On, Over, Refused, Ended, in_order}
use Rattle.folder_commands.specs.Leaving.{quit}
use Rattle.session_state.specs.declared.state.SessionState.{SessionState}
use Rattle.session_state.specs.declared.status.Status.{Status}
use Rattle.session_state.specs.declared.status.Status.TheVariants as status
use Rattle.session_state.specs.Outcomes.{status_of}
use Rattle.session_asks.specs.Asks.{asked}
use Rattle.mailx_session.specs.Rounds.{FinishGo}

-- how the run ends once the folder was to be left: if that was refused, its line is printed
abbrev pub left_by : After SessionState Status → Play Status
left_by (On s) = Ret (status_of s.outcome)
left_by (Over s) = Ret (status_of s.outcome)
left_by (Refused line) = Ask (Say line) (λ _. Ret status.Refused)
left_by (Ended e) = Ret e

-- the folder is left at the end of the input, as by `quit`
abbrev pub leaving : SessionState → Play Status
leaving s = bind (in_order asked s (quit s.desk).asks) left_by

-- The end of the input: while a draft is open it ends, and the lines that wait are carried out; then the folder is left, unless the run ended before.
pub data InputEnds (s : SessionState) : List Event → Result Status Stop → Type 0 where
  then_leaves : {t : SessionState} {es : List Event} {out : Result Status Stop} (front rest : List Event) → es ≡ front ++ rest
      → FinishGo s front (Ok (Go t)) → Goes (leaving t) rest out → InputEnds s es out
  ends_before : {es : List Event} {e : Status} → FinishGo s es (Ok (Last e)) → InputEnds s es (Ok e)
  cut_before : {es : List Event} {cause : Stop} → FinishGo s es (Err cause) → InputEnds s es (Err cause)
