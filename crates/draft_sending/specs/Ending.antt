-- The end of a draft, stage by stage.
use Rattle.std.specs.Prelude.{◌≡◌, ◌<◌, ℕ, pos, List, [], Option, None}
use Rattle.std.proofs.Common.{sym, subst}
use Rattle.mail_dates.specs.Clock.{IsPrintable}
use Rattle.draft_text.specs.declared.draft.Draft.{Draft}
use Rattle.session_play.specs.Play.{Play, Ret, Next, Go}
use Rattle.send_rules.specs.Addressing.{addressees}
use Rattle.send_rules.specs.Lines.{names_refused}
use Rattle.session_state.specs.declared.state.SessionState.{SessionState}
use Rattle.session_state.specs.declared.status.Status.{Status}
use Rattle.session_state.specs.States.{IsState, KeepsButOutcome}
use Rattle.session_state.specs.Answers.{EndsByAsk, EndsByLine}
use Rattle.activities.specs.declared.call.Answer.{Answer}
use Rattle.activities.specs.declared.call.Answer.TheVariants as answer
use Rattle.activities.specs.declared.call.Turn.{Turn}
use Rattle.activities.specs.Acting.{Reply, Said, Committed, Sent, Time, Leads}
use Rattle.draft_sending.specs.declared.sending.Ending.{Ending}
use Rattle.draft_sending.specs.declared.sending.Stage.{Stage}
use Rattle.draft_sending.specs.declared.sending.Stage.TheVariants as stage
use Rattle.draft_sending.specs.Sending.{addressing, after_record, after_sender, after_dead_letter, letter_of, lost}

-- the end of a draft that begins so; no moment is known yet
abbrev pub begun : Stage → Draft → Option (List ℕ) → Ending
begun st draft file = record {
  stage = st;
  letter = letter_of draft (record { seconds = pos 0; offset = pos 0 });
  file = file;
  names = [];
  dead = [];
}

-- what follows the reply that a stage waits for
abbrev pub follows_at : Stage → Ending → SessionState → Reply → Play (Next SessionState Status)
follows_at stage.Dating e s (Time m) = addressing s e.file e.letter.draft m (addressees s.desk e.letter.draft)
follows_at stage.GivingUp e s (Time m) = lost s (letter_of e.letter.draft m)
follows_at stage.Recording e s (Committed after) = after_record s e.letter e.names after
follows_at stage.Sending e s (Sent result) = after_sender s e.letter result
follows_at stage.Keeping e s Said = lost s e.letter
follows_at stage.Saving e s (Committed after) = after_dead_letter s e.dead after
follows_at st e s reply = Ret (Go s)

abbrev pub follows : Ending → SessionState → Reply → Play (Next SessionState Status)
follows e s reply = follows_at e.stage e s reply

-- the answer is one to what a stage waits for; the moment is known from then on, and names are sent to that no line refuses
abbrev pub TakesAt : Stage → Ending → Answer → Type 0
TakesAt stage.Dating e (answer.Time m) = IsPrintable m
TakesAt stage.GivingUp e (answer.Time m) = IsPrintable m
TakesAt stage.Recording e (answer.Committed asked) = EndsByAsk asked × IsPrintable e.letter.moment × (names_refused e.names ≡ None)
TakesAt stage.Sending e (answer.Sent result) = IsPrintable e.letter.moment
TakesAt stage.Keeping e answer.Said = IsPrintable e.letter.moment
TakesAt stage.Saving e (answer.Committed asked) = EndsByAsk asked
TakesAt stage.Telling e answer.Said = Unit {0}
TakesAt st e a = ⊥

abbrev pub Takes : Ending → Answer → Type 0
Takes e a = TakesAt e.stage e a

-- the most calls that follow the one that a stage waits for
abbrev pub most_at : Stage → ℕ
most_at stage.Dating = 5
most_at stage.GivingUp = 2
most_at stage.Recording = 4
most_at stage.Sending = 3
most_at stage.Keeping = 2
most_at stage.Saving = 1
most_at stage.Telling = 0

abbrev pub most : Ending → ℕ
most e = most_at e.stage

-- the moment is known, and more than n calls may follow
abbrev pub IsDated : ℕ → Ending → Type 0
IsDated n e = (n < most e) × IsPrintable e.letter.moment

-- from a turn on this play is left, with at most n calls
abbrev pub LeadsTo : ℕ → Play (Next SessionState Status) → Ending → SessionState → Turn → Type 0
LeadsTo n play e s turn = Leads n play (follows e s) (Takes e) EndsByLine (most e) s turn

-- only what became of drafts is changed, also by two changes after each other, and a valid state stays valid
pub keeps-joined : (s t u : SessionState) → KeepsButOutcome s t → KeepsButOutcome t u → KeepsButOutcome s u
keeps-joined s t u first second =
    let G : SessionState → Type 0 = λ x. u ≡ record x { outcome = u.outcome } in subst G first second

pub keeps-valid : (s t : SessionState) → KeepsButOutcome s t → IsState s → IsState t
keeps-valid s t keeps is = subst IsState (sym keeps) (record { desk = is.desk; actor = is.actor })
