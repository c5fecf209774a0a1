-- Whether a run met a record of its actor that can't be read, by the own events of its commits and recoveries.
use Rattle.std.specs.Prelude.{◌≡◌, not, Bool, true, false, List}
use Rattle.std.specs.declared.result.Result.{Result}
use Rattle.std.specs.declared.result.Result.TheVariants.{Ok}
use Rattle.host_port.specs.declared.event.Event.{Event}
use Rattle.folder_change.specs.declared.change.Change.{Change}
use Rattle.commit_machine.specs.Jobs.{Ending, Refused, NotARecord, TooLarge}
use Rattle.folder_commit.specs.Told.{end_told}
use Rattle.folder_recovery.specs.Told.{told_end}
use Rattle.session_play.specs.declared.stop.Stop.{Stop}
use Rattle.session_play.specs.Play.{Act, Answer, Changes, Recover, Play, Goes, Next, Loop}
use Rattle.session_state.specs.Saving.{is_changed}
use Rattle.session_state.specs.declared.status.Status.{Status}
use Rattle.session_state.specs.declared.status.Status.TheVariants as status
use Rattle.mailx_top.specs.Met.{some_act, some_act_in}
use Rattle.mailx_top.specs.Openings.{EndsOrIsCut}
use Rattle.mailx_top.specs.Starts.{is_bad_record}

-- A commit of these changes ended because what stands as the record is none, or because it or a staged file is too large to load.
abbrev pub is_unreadable : List Change → Ending → Bool
is_unreadable changes (Refused NotARecord) = true
is_unreadable changes (Refused (TooLarge name length)) = not (is_changed changes name)
is_unreadable changes end = false

-- The own events of an act tell of a commit or a recovery that ended so. A recovery loads nothing but the record and staged files.
abbrev pub met_unreadable : (act : Act) → Answer act → List Event → Bool
met_unreadable (Changes c) answer es = is_unreadable c.changes (end_told c.actor c.changes c.base es)
met_unreadable (Recover actor token) answer es = is_bad_record (told_end actor es)
met_unreadable act answer es = false

-- some act of a play met such a record
abbrev pub some_unreadable : {R : Type 0} (p : Play R) (es : List Event) (out : Result R Stop) → Goes p es out → Bool
some_unreadable p es out goes = some_act met_unreadable p es out goes

-- some act of a loop did
abbrev pub some_unreadable_in : {X R : Type 0} {round : X → Play (Next X R)} {x : X} {es : List Event} {out : Result R Stop} → Loop round x es out → Bool
some_unreadable_in loop = some_act_in met_unreadable loop

-- A run ends for its record exactly when a commit or a recovery of it met one that can't be read, unless it is cut off.
pub record IsRecordExplained (out : Result Status Stop) (met : Bool) : Type 0 where
  pub only : out ≡ Ok status.BadRecord → met ≡ true
  pub always : met ≡ true → EndsOrIsCut status.BadRecord out
