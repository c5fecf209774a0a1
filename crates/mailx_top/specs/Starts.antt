-- How the recovery at the start of a run ended, and what came of it.
use Rattle.std.specs.Prelude.{◌≡◌, ◌||◌, ℕ, Bool, true, false, List, []}
use Rattle.std.specs.declared.option.Option.{Option}
use Rattle.std.specs.declared.option.Option.TheVariants.{Some}
use Rattle.std.specs.declared.result.Result.{Result}
use Rattle.std.specs.declared.result.Result.TheVariants.{Ok}
use Rattle.commit_machine.specs.Jobs.{Busy, NotARecord, TooLarge, Ending, Recovered, Refused}
use Rattle.host_port.specs.declared.event.Event.{Event}
use Rattle.folder_recovery.specs.Told.{told_end}
use Rattle.session_play.specs.declared.stop.Stop.{Stop}
use Rattle.session_state.specs.declared.status.Status.{Status}
use Rattle.session_state.specs.declared.status.Status.TheVariants as status
use Rattle.mailx_top.specs.Openings.{EndsOrIsCut}
use Rattle.mailx_top.specs.Words.{Start, Sends}

-- it is done, so that the folder is to be opened
abbrev pub is_recovered : Ending → Bool
is_recovered (Recovered found) = true
is_recovered recovery = false

-- it met another's right
abbrev pub is_right_busy : Ending → Bool
is_right_busy (Refused (Busy name)) = true
is_right_busy recovery = false

-- what stands as the record is none, or it or a staged file is too large to load
abbrev pub is_bad_record : Ending → Bool
is_bad_record (Refused NotARecord) = true
is_bad_record (Refused (TooLarge name length)) = true
is_bad_record recovery = false

-- Once the recovery is done the opening explains the rest. If it met another's right the run is refused, and if the record can't be read it
-- ends so, unless it is cut off; and a run ends in one of these ways, or without a folder, only after such a recovery.
pub record IsStartExplained (out : Result Status Stop) (recovery : Ending) (Opening : Type 0) : Type 0 where
  pub opens : is_recovered recovery ≡ true → Opening
  pub busy : is_right_busy recovery ≡ true → EndsOrIsCut status.Refused out
  pub bad : is_bad_record recovery ≡ true → EndsOrIsCut status.BadRecord out
  pub refused_only : out ≡ Ok status.Refused → (is_right_busy recovery || is_recovered recovery) ≡ true
  pub bad_record_only : out ≡ Ok status.BadRecord → (is_bad_record recovery || is_recovered recovery) ≡ true
  pub no_folder_only : out ≡ Ok status.NoFolder → is_recovered recovery ≡ true
  pub no_mail_only : out ≡ Ok status.NoMail → is_recovered recovery ≡ true
  pub done_only : out ≡ Ok status.Done → is_recovered recovery ≡ true

-- A run that sends a draft recovers nothing, and its opening explains it. Another is explained by its recovery first,
-- whose own events these are.
abbrev pub IsExplainedFrom : Option Start → List ℕ → Result Status Stop → List Event → Type 0 → Type 0
IsExplainedFrom (Some (Sends o)) actor out es Opening = (es ≡ []) × Opening
IsExplainedFrom start actor out es Opening = IsStartExplained out (told_end actor es) Opening
