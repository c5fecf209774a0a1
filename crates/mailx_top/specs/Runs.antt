-- A whole run, by its own events.
use Rattle.std.specs.Prelude.{◌≡◌, ◌⊎◌, ℕ, Bool, true, false, List, [], ◌∷◌, take}
use Rattle.std.specs.declared.option.Option.{Option}
use Rattle.std.specs.declared.option.Option.TheVariants.{Some, None}
use Rattle.std.specs.declared.result.Result.{Result}
use Rattle.std.specs.declared.result.Result.TheVariants.{Ok, Err}
use Rattle.host_port.specs.declared.event.Event.{Event}
use Rattle.host_port.specs.declared.event.Event.TheVariants as event
use Rattle.session_play.specs.declared.stop.Stop.{Stop}
use Rattle.session_play.specs.declared.stop.Stop.TheVariants as stop
use Rattle.session_play.specs.Play.{Whole}
use Rattle.session_play.specs.Causes.{IsExplained, events_at, commits_in}
use Rattle.session_state.specs.declared.status.Status.{Status}
use Rattle.mailx_top.specs.declared.environment.Environment.{Environment}
use Rattle.mailx_top.specs.Meaning.{Recovering, round, actor_in, actor_said, is_recovering, is_opening}
use Rattle.mailx_top.specs.Leavings.{refused_at_end, last_outcome, IsUnsentExplained}
use Rattle.mailx_top.specs.Openings.{OpenedBadly, IsOpeningExplained}
use Rattle.mailx_top.specs.Starts.{IsExplainedFrom}
use Rattle.mailx_top.specs.Unreadable.{some_unreadable_in, IsRecordExplained}
use Rattle.mailx_top.specs.Words.{Start, may_say, start_of}
use Rattle.mailx_top.specs.Statuses.{status_at_stop, line_at_stop, line_at_end}

-- bytes are printed by one Out, as far as they went
abbrev pub AsFar : List ℕ → List Event → Type 0
AsFar bytes es = (es ≡ event.Out bytes false ∷ []) ⊎ ((n : ℕ) × (es ≡ event.Out (take n bytes) true ∷ []))

-- bytes are printed, as far as they went, if they may be; else nothing is
abbrev pub SaysLast : Bool → List ℕ → List Event → Type 0
SaysLast true bytes es = AsFar bytes es
SaysLast false bytes es = es ≡ []

-- what is said at the end about a line that may be missing
abbrev pub SaysAtEnd : Bool → Option (List ℕ) → List Event → Type 0
SaysAtEnd may None es = es ≡ []
SaysAtEnd may (Some line) es = SaysLast may line es

-- at a cut its line is printed, if one may be; if memory runs out before anything is done the words may not have been read
abbrev pub SaysAtCut : Bool → Stop → List Event → Type 0
SaysAtCut may stop.Memory es = SaysLast may (line_at_stop stop.Memory) es ⊎ (es ≡ [])
SaysAtCut may cause es = SaysLast may (line_at_stop cause) es

-- at a cut its line is printed; an end adds nothing, but the line of the actor's record if that can't be read
abbrev pub Ending : List ℕ → Bool → Status → Result Status Stop → List Event → Type 0
Ending actor may s (Ok e) es = (s ≡ e) × SaysAtEnd may (line_at_end actor e) es
Ending actor may s (Err cause) es = (s ≡ status_at_stop cause) × SaysAtCut may cause es

-- if the line of a cut may be printed, it is left out only if nothing was done
abbrev pub SaysUnlessIdle : Bool → Result Status Stop → List Event → List Event → Type 0
SaysUnlessIdle may (Ok e) front behind = Unit {0}
SaysUnlessIdle may (Err cause) front behind = may ≡ true → behind ≡ [] → front ≡ []

-- The own events of a run whose words ask for this in this environment, which ends with this status: those of its
-- meaning, with each cut explained. A load counts as one of the folder if its round opens the folder (those of
-- start-up files and of lines don't), and a fault of the disk in a commit or in the recovery counts too. A run ends for
-- its record exactly when its recovery or a commit of it met one that can't be read. How the recovery ended its own
-- events tell; a run that sends makes none.
pub record IsRun (start : Option Start) (env : Environment) (s : Status) (es : List Event) : Type 0 where
  pub whole : Whole (round env) (Recovering (start_of start env.pairs)) (Ending (actor_said env) (may_say start) s) es
  pub said : SaysUnlessIdle (may_say start) whole.out whole.front whole.behind
  pub explained : IsExplained whole.out whole.front (events_at is_opening whole.plays) (commits_in whole.plays)
  pub record_met : IsRecordExplained whole.out (some_unreadable_in whole.plays)
  pub opening : IsExplainedFrom (start_of start env.pairs) (actor_in env) whole.out (events_at is_recovering whole.plays)
      (IsOpeningExplained (OpenedBadly whole.plays) (start_of start env.pairs) whole.out
      (events_at is_opening whole.plays) (refused_at_end whole.plays))
  pub sending : IsUnsentExplained whole.out (last_outcome whole.plays) (refused_at_end whole.plays)
