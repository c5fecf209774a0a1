-- Whether the quit at the end of the input was refused, by what its changes were answered.
use Rattle.std.proofs.Common.{inl, inr}
use Rattle.std.specs.Prelude.{◌≡◌, ◌||◌, ◌&&◌, not, ℤ, Bool, true, false, List}
use Rattle.std.specs.Option.{option_map_or}
use Rattle.std.specs.declared.option.Option.{Option}
use Rattle.std.specs.declared.option.Option.TheVariants.{Some, None}
use Rattle.std.specs.declared.result.Result.{Result}
use Rattle.std.specs.declared.result.Result.TheVariants.{Ok, Err}
use Rattle.host_port.specs.declared.event.Event.{Event}
use Rattle.folder_change.specs.declared.change.Change.{Change}
use Rattle.session_play.specs.declared.changing.Attempt.{Attempt}
use Rattle.session_play.specs.declared.stop.Stop.{Stop}
use Rattle.session_play.specs.Play.{Act, Answer, Changes, Play, Ret, Ask, Goes, Next, Last, Loop, again, last, cut}
use Rattle.folder_commands.specs.Leaving.{changes_of}
use Rattle.session_state.specs.declared.state.SessionState.{SessionState}
use Rattle.session_state.specs.declared.outcome.SendOutcome.{SendOutcome}
use Rattle.session_state.specs.declared.outcome.SendOutcome.TheVariants as outcome
use Rattle.session_state.specs.declared.status.Status.{Status}
use Rattle.session_state.specs.declared.status.Status.TheVariants as status
use Rattle.session_state.specs.Placing.{placed_changes}
use Rattle.session_state.specs.Saving.{refuses}
use Rattle.mailx_top.specs.Meaning.{RunState, Recovering, Preparing, Opening, Reading, Finishing, Leaving}

-- what an act was answered, if it is one that changes files; else a later answer
abbrev pub or_answered : (act : Act) → Answer act → Option Attempt → Option Attempt
or_answered (Changes c) answer later = Some answer
or_answered act answer later = later

-- what the first such act of a play was answered, if there is one
abbrev pub first_answer : {R : Type 0} (p : Play R) (es : List Event) (out : Result R Stop) → Goes p es out → Option Attempt
first_answer (Ret r) es out g = None
first_answer (Ask act go) es out (inl (answer, front, rest, is, did, goes)) = or_answered act answer (first_answer (go answer) rest out goes)
first_answer (Ask act go) es out (inr how) = None

-- what a quit changes in a state
abbrev pub left_changes : SessionState → List Change
left_changes s = changes_of s.desk

-- a quit is refused by what its changes were answered
abbrev pub is_quit_refused : SessionState → Option Attempt → Bool
is_quit_refused s answer = option_map_or (refuses (placed_changes s.here (left_changes s))) answer false

-- the record or the dead letter of a draft was refused, or the word for a record stood for no file
abbrev pub is_draft_refused : SendOutcome → Bool
is_draft_refused outcome.Fine = false
is_draft_refused (outcome.NotSent n) = false
is_draft_refused outcome.Refused = true
is_draft_refused outcome.Unrecorded = true

-- a run ends for a record of commits that can't be read
abbrev pub is_for_record : Status → Bool
is_for_record status.BadRecord = true
is_for_record e = false

-- a draft was refused so before the round that ends the run, which doesn't end it for a record that can't be read
abbrev pub is_refused_before : SendOutcome → Status → Bool
is_refused_before o e = is_draft_refused o && not (is_for_record e)

-- the round that ends the run refuses its quit, if it leaves the folder, or a draft was refused before it
abbrev pub is_refused_at : RunState → Status → Option Attempt → Bool
is_refused_at (Recovering start) e answer = false
is_refused_at (Preparing start s names) e answer = is_refused_before s.outcome e
is_refused_at (Opening start s) e answer = false
is_refused_at (Reading s i) e answer = is_refused_before s.outcome e
is_refused_at (Finishing s i) e answer = is_refused_before s.outcome e
is_refused_at (Leaving s i) e answer = is_quit_refused s answer || is_refused_before s.outcome e

-- the last round of a run left the folder at the end of the input, and that quit was refused, or the record or the dead letter of a draft was
-- refused before
abbrev pub refused_at_end : {round : RunState → Play (Next RunState Status)} {x : RunState} {es : List Event} {out : Result Status Stop} → Loop round x es out → Bool
refused_at_end (again front rest is goes more) = refused_at_end more
refused_at_end {round = round} (last {x = x} {es = es} {r = r} goes) = is_refused_at x r (first_answer (round x) es (Ok (Last r)) goes)
refused_at_end (cut goes) = false

-- what became of drafts before a round, if a session goes on
abbrev pub outcome_before : RunState → SendOutcome
outcome_before (Recovering start) = outcome.Fine
outcome_before (Preparing start s names) = s.outcome
outcome_before (Opening start s) = outcome.Fine
outcome_before (Reading s i) = s.outcome
outcome_before (Finishing s i) = s.outcome
outcome_before (Leaving s i) = s.outcome

-- and before the last round of a run
abbrev pub last_outcome : {round : RunState → Play (Next RunState Status)} {x : RunState} {es : List Event} {out : Result Status Stop} → Loop round x es out → SendOutcome
last_outcome (again front rest is goes more) = last_outcome more
last_outcome (last {x = x} goes) = outcome_before x
last_outcome (cut {x = x} goes) = outcome_before x

-- the run ends as one that left a draft unsent, by a sender with this status if one was run, unless it is refused, or ends for a record that can't
-- be read, or is cut off
abbrev pub EndsUnsent : Option ℤ → Bool → Result Status Stop → Type 0
EndsUnsent n refused (Ok (status.NotSent m)) = m ≡ n
EndsUnsent n refused (Ok status.Refused) = refused ≡ true
EndsUnsent n refused (Ok status.BadRecord) = Unit {0}
EndsUnsent n refused (Ok e) = ⊥
EndsUnsent n refused (Err cause) = Unit {0}

-- A run ends so exactly when a draft wasn't sent before its last round, and none was refused.
pub record IsUnsentExplained (out : Result Status Stop) (before : SendOutcome) (refused : Bool) : Type 0 where
  pub only : (n : Option ℤ) → out ≡ Ok (status.NotSent n) → before ≡ outcome.NotSent n
  pub always : (n : Option ℤ) → before ≡ outcome.NotSent n → EndsUnsent n refused out
