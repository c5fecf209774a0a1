-- How a run ends if its words, its environment or its folder's name are refused, whatever the host tells.
use Rattle.std.specs.Prelude.{◌≡◌, true, IfOk}
use Rattle.std.specs.declared.option.Option.{Option}
use Rattle.std.specs.declared.option.Option.TheVariants.{Some, None}
use Rattle.std.specs.declared.result.Result.{Result}
use Rattle.std.specs.declared.result.Result.TheVariants.{Ok, Err}
use Rattle.session_play.specs.declared.stop.Stop.{Stop}
use Rattle.session_play.specs.declared.stop.Stop.TheVariants as stop
use Rattle.session_state.specs.declared.status.Status.{Status}
use Rattle.session_state.specs.declared.status.Status.TheVariants as status
use Rattle.session_state.specs.Statuses.{IsEnd}
use Rattle.mailx_top.specs.declared.environment.Environment.{Environment}
use Rattle.mailx_top.specs.Words.{Start, options_of}
use Rattle.mailx_top.specs.Meaning.{Opening, first_of}
use Rattle.mailx_top.specs.Openings.{OpensBadly}

-- a line that is printed is cut off if the output fails; memory may run out for it
abbrev pub IsSayCut : Stop → Type 0
IsSayCut stop.Output = Unit {0}
IsSayCut stop.Memory = Unit {0}
IsSayCut cause = ⊥

-- this end, or such a cut in its place
abbrev pub EndsOr : Status → Result Status Stop → Type 0
EndsOr wanted (Ok s) = s ≡ wanted
EndsOr wanted (Err cause) = IsSayCut cause

-- an opening that opens no folder ends with the status, or at a write that failed
abbrev pub EndsOrOpens : Status → Result (Option Status) Stop → Type 0
EndsOrOpens wanted (Ok None) = ⊥
EndsOrOpens wanted (Ok (Some s)) = s ≡ wanted
EndsOrOpens wanted (Err cause) = IsSayCut cause

-- a folder is to be opened whose word is bad in the first state of a run, and no start-up file can set variables that it
-- stands on
abbrev pub IsBadName : Environment → Option Start → Type 0
IsBadName env None = ⊥
IsBadName env (Some start) = ((options_of start).exists ≡ true) × OpensBadly (Opening (Some start) (first_of env (Some start)))

-- the recovery at the start is cut off by a fault of the disk, or because memory ran out; so is the line that it may print, if the output fails
abbrev pub IsStartCut : Stop → Type 0
IsStartCut stop.Output = Unit {0}
IsStartCut stop.Disk = Unit {0}
IsStartCut stop.Memory = Unit {0}
IsStartCut cause = ⊥

-- how the recovery at the start may end a run: it met another's right, or a record that can't be read
abbrev pub IsStartEnd : Status → Type 0
IsStartEnd status.Refused = Unit {0}
IsStartEnd status.BadRecord = Unit {0}
IsStartEnd s = ⊥

-- the recovery is done, or it ends the run so or is cut off so
abbrev pub StopsAtStart : Result (Option Status) Stop → Type 0
StopsAtStart (Ok None) = Unit {0}
StopsAtStart (Ok (Some s)) = IsStartEnd s
StopsAtStart (Err cause) = IsStartCut cause

-- a run that opens no folder ends without one, if it didn't end at its start
abbrev pub EndsUnopened : Result Status Stop → Type 0
EndsUnopened (Ok status.NoFolder) = Unit {0}
EndsUnopened (Ok s) = IsStartEnd s
EndsUnopened (Err cause) = IsStartCut cause

-- a run ends as refused words do exactly when there is no way to start, and without a folder if its word stands for
-- no file
abbrev pub EndsAsNamed : Environment → Option Start → Result Status Stop → Type 0
EndsAsNamed env None out = EndsOr status.Usage out
EndsAsNamed env (Some start) out = IfOk out IsEnd × (IsBadName env (Some start) → EndsUnopened out)

-- this status, or that of such a cut in its place
abbrev pub IsOrCut : Status → Status → Type 0
IsOrCut wanted status.OutputFault = Unit {0}
IsOrCut wanted status.Memory = Unit {0}
IsOrCut wanted s = s ≡ wanted

-- the status of a run that opens no folder: there is none, or the recovery at the start or a line that is printed ended the run
abbrev pub IsUnopened : Status → Type 0
IsUnopened status.NoFolder = Unit {0}
IsUnopened status.Refused = Unit {0}
IsUnopened status.BadRecord = Unit {0}
IsUnopened status.DiskFault = Unit {0}
IsUnopened status.OutputFault = Unit {0}
IsUnopened status.Memory = Unit {0}
IsUnopened s = ⊥
