-- The lines of a session: one of the input, and those that wait.
use Rattle.std.specs.Prelude.{◌≡◌, ◌+◌, nat_lt, ℕ, Bool, true, false, not, ◌||◌, List, [], ◌++◌, codes, if◌then◌else◌}
use Rattle.std.specs.List.{list_all}
use Rattle.std.specs.declared.option.Option.TheVariants.{Some, None}
use Rattle.std.specs.declared.result.Result.{Result}
use Rattle.std.specs.declared.result.Result.TheVariants.{Ok, Err}
use Rattle.host_port.specs.declared.event.Event.{Event}
use Rattle.mail_text.specs.Ascii.{is_blank}
use Rattle.mail_text.specs.Lines.{with_feed}
use Rattle.session_play.specs.declared.stop.Stop.{Stop}
use Rattle.session_play.specs.declared.stop.Stop.TheVariants as stop
use Rattle.session_play.specs.Play.{Play, Ret, Ask, Say, Next, Go, Last, Goes}
use Rattle.rc_conditionals.specs.Turns.{is_live}
use Rattle.command_desk.specs.declared.desk.Desk.{Desk}
use Rattle.read_commands.specs.declared.origin.Origin.{Origin}
use Rattle.read_commands.specs.declared.origin.Origin.TheVariants.{Input}
use Rattle.read_commands.specs.Origins.{commanded, is_defining}
use Rattle.session_state.specs.declared.frames.WaitingLine.{WaitingLine}
use Rattle.session_state.specs.declared.state.SessionState.{SessionState}
use Rattle.session_state.specs.declared.status.Status.{Status}
use Rattle.session_state.specs.Waits.{Pending}
use Rattle.session_state.specs.States.{command_limit, is_drafting, next_waiting, with_count, resumed, line_ended}
use Rattle.mailx_session.specs.Sessions.{carried_out}
use Rattle.mailx_session.specs.Drafting.{draft_play}
use Rattle.draft_sending.specs.Sending.{ended_draft}

-- what a line from somewhere does
abbrev pub line_play : Origin → SessionState → List ℕ → Play (Next SessionState Status)
line_play from s line = carried_out s (commanded from s.desk line)

-- a line of the input that is a command: it begins the count of commands anew, and is the first of them
abbrev pub command_play : SessionState → List ℕ → Play (Next SessionState Status)
command_play s line = line_play Input (with_count (line_ended s) 1) line

-- a line of the input: one of the draft, if one is open, and else a command
abbrev pub typed_play : SessionState → List ℕ → Play (Next SessionState Status)
typed_play s line = if is_drafting s then draft_play s line else command_play s line

abbrev pub too_many_commands : List ℕ
too_many_commands = with_feed (codes "too many commands")

-- this is printed, and the lines that wait are dropped, with the conditions and the definition that they left open
abbrev pub dropped_play : SessionState → Play (Next SessionState Status)
dropped_play s = Ask (Say too_many_commands) (λ _. Ret (Go (resumed s [])))

-- a line from elsewhere is a command more, unless that passes the limit: then all lines that wait are dropped
abbrev pub counted_play : SessionState → WaitingLine → Play (Next SessionState Status)
counted_play s line =
    if nat_lt s.count command_limit then line_play line.origin (with_count s (s.count + 1)) line.text
    else dropped_play s

-- a line from elsewhere has nothing but blanks
abbrev pub is_empty : WaitingLine → Bool
is_empty line = list_all is_blank line.text

-- a line from elsewhere, while lines are carried out; an empty one is no command
abbrev pub outside_play : SessionState → WaitingLine → Play (Next SessionState Status)
outside_play s line = if is_empty line then Ret (Go s) else counted_play s line

-- a line that is read here is no command: a definition is under way, or lines aren't carried out
abbrev pub is_uncounted : Desk → Bool
is_uncounted desk = is_defining desk || not (is_live desk.conditions)

-- a line from elsewhere, with the count of commands
abbrev pub waiting_play : SessionState → WaitingLine → Play (Next SessionState Status)
waiting_play s line =
    if is_uncounted s.desk then line_play line.origin s line.text
    else outside_play s line

-- The lines that wait are carried out, each on the state that the one before it left, until none is left, a draft is open, the
-- run ends or is cut off.
pub data WaitingGo : SessionState → List Event → Result (Next SessionState Status) Stop → Type 0 where
  none : {s : SessionState} → next_waiting s ≡ None → WaitingGo s [] (Ok (Go (line_ended s)))
  more : {s t : SessionState} {es : List Event} {out : Result (Next SessionState Status) Stop} (line : WaitingLine) (frames : List Pending) (front rest : List Event)
      → next_waiting s ≡ Some (line, frames) → es ≡ front ++ rest → Goes (waiting_play (resumed s frames) line) front (Ok (Go t))
      → WaitingGo t rest out → WaitingGo s es out
  ended : {s : SessionState} {es : List Event} {e : Status} (line : WaitingLine) (frames : List Pending) → next_waiting s ≡ Some (line, frames)
      → Goes (waiting_play (resumed s frames) line) es (Ok (Last e)) → WaitingGo s es (Ok (Last e))
  cut : {s : SessionState} {es : List Event} {cause : Stop} (line : WaitingLine) (frames : List Pending) → next_waiting s ≡ Some (line, frames)
      → Goes (waiting_play (resumed s frames) line) es (Err cause) → WaitingGo s es (Err cause)
  short : {s : SessionState} → WaitingGo s [] (Err stop.Memory)

-- A line of the input is carried out, and then the lines that it brings.
pub data LineGoes (s : SessionState) (line : List ℕ) : List Event → Result (Next SessionState Status) Stop → Type 0 where
  typed : {t : SessionState} {es : List Event} {out : Result (Next SessionState Status) Stop} (front rest : List Event) → es ≡ front ++ rest
      → Goes (typed_play s line) front (Ok (Go t)) → WaitingGo t rest out → LineGoes s line es out
  last : {es : List Event} {e : Status} → Goes (typed_play s line) es (Ok (Last e)) → LineGoes s line es (Ok (Last e))
  cut_short : {es : List Event} {cause : Stop} → Goes (typed_play s line) es (Err cause) → LineGoes s line es (Err cause)

-- The draft that is open ends, and the lines that wait are carried out, unless the run ends with it.
pub data DraftEnds (s : SessionState) : List Event → Result (Next SessionState Status) Stop → Type 0 where
  told : {t : SessionState} {es : List Event} {out : Result (Next SessionState Status) Stop} (front rest : List Event) → es ≡ front ++ rest
      → Goes (ended_draft s) front (Ok (Go t)) → WaitingGo t rest out → DraftEnds s es out
  told_last : {es : List Event} {e : Status} → Goes (ended_draft s) es (Ok (Last e)) → DraftEnds s es (Ok (Last e))
  untold : {es : List Event} {cause : Stop} → Goes (ended_draft s) es (Err cause) → DraftEnds s es (Err cause)

-- The end of the input: while a draft is open it ends, and the lines that wait are carried out.
pub data FinishGo : SessionState → List Event → Result (Next SessionState Status) Stop → Type 0 where
  finished : {s : SessionState} → is_drafting s ≡ false → FinishGo s [] (Ok (Go s))
  onward : {s t : SessionState} {es : List Event} {out : Result (Next SessionState Status) Stop} (front rest : List Event) → is_drafting s ≡ true
      → es ≡ front ++ rest → DraftEnds s front (Ok (Go t)) → FinishGo t rest out → FinishGo s es out
  left : {s : SessionState} {es : List Event} {e : Status} → is_drafting s ≡ true → DraftEnds s es (Ok (Last e)) → FinishGo s es (Ok (Last e))
  lost : {s : SessionState} {es : List Event} {cause : Stop} → is_drafting s ≡ true → DraftEnds s es (Err cause) → FinishGo s es (Err cause)
