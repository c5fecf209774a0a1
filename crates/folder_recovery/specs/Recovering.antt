-- What a recovery answers, and how the machine ends.
use Rattle.std.specs.Prelude.{◌≡◌, ◌⊎◌, ◌<◌, ℕ, false, List, [], None}
use Rattle.std.specs.declared.result.Result.{Result}
use Rattle.std.specs.declared.result.Result.TheVariants.{Ok, Err}
use Rattle.host_port.specs.declared.event.Event.{Event}
use Rattle.host_port.specs.Calls.{Counts, Rose, load_limit}
use Rattle.commit_record.specs.declared.record.Phase.TheVariants.{Go}
use Rattle.commit_machine.specs.Names.{record_name, new_name, right_name, staged_name}
use Rattle.commit_machine.specs.Jobs.{Before, Found, Ending, Refused, Failed, NoMemory, Job}
use Rattle.commit_machine.specs.Jobs as jobs
use Rattle.commit_machine.specs.Machine.{Seizing, Ended}
use Rattle.commit_machine.specs.Goes.{Goes}
use Rattle.commit_driver.specs.declared.step.Recovered.{Recovered}
use Rattle.commit_driver.specs.declared.step.End.{End}
use Rattle.commit_driver.specs.declared.step.End.TheVariants as end
use Rattle.commit_driver.specs.declared.place.Plan.{Plan}
use Rattle.commit_driver.specs.declared.place.Place.{Place}
use Rattle.commit_driver.specs.Places.{nth, found_as}
use Rattle.folder_recovery.specs.declared.error.RecoverError.{RecoverError}
use Rattle.folder_recovery.specs.declared.error.RecoverError.TheVariants as error

-- what was found, as the machine has it
abbrev pub found : Recovered → Found
found f = found_as f

-- the disk is answered only if its count rose, and too many bytes only past the limit
abbrev pub RecoverCause : Counts → Counts → Result Recovered RecoverError → Type 0
RecoverCause before now (Err error.Disk) = Rose before.disks now.disks
RecoverCause before now (Err (error.TooLarge name n)) = load_limit < n
RecoverCause before now r = Unit {0}

-- the events carry the machine of a job from its start to its end
abbrev pub GoesTo : Job → List Event → Ending → Type 0
GoesTo j es end = Goes j Seizing es (Ended end)

-- the name of a file that a recovery loads: the record's, or that of a staged file
abbrev pub IsLoadedBy : List ℕ → List ℕ → Type 0
IsLoadedBy actor name = (name ≡ record_name actor) ⊎ ((token : ℕ) × (file : List ℕ) × (name ≡ staged_name token file))

-- What a recovery answers is how the machine ends. Running out of memory may hide that the file is no record.
abbrev pub Recovers : Job → List Event → Result Recovered RecoverError → Type 0
Recovers j es (Ok f) = GoesTo j es (jobs.Recovered (found f))
Recovers j es (Err (error.Busy name)) = (name ≡ right_name j.actor) × GoesTo j es (Refused (jobs.Busy name))
Recovers j es (Err error.NotARecord) = GoesTo j es (Refused jobs.NotARecord)
Recovers j es (Err (error.TooLarge name n)) = IsLoadedBy j.actor name × GoesTo j es (Refused (jobs.TooLarge name n))
Recovers j es (Err error.Disk) = GoesTo j es (Failed Before)
Recovers j es (Err error.Memory) = GoesTo j es NoMemory ⊎ GoesTo j es (Refused jobs.NotARecord)

-- the plan of a recovery
abbrev pub recovery_plan : List ℕ → Plan
recovery_plan actor = record {
  «record» = record_name actor;
  new = new_name actor;
  right = right_name actor;
  commits = false;
  value = record { phase = Go; token = 0; moment = None; entries = [] };
  staged = [];
  prepare = [];
}

-- the answer if a recovery whose right was taken ends so; it has no files, and isn't decided
abbrev pub answer_of : End → Plan → Place → Result Recovered RecoverError
answer_of (end.Recovered f) plan place = Ok f
answer_of (end.RecordTooLarge n) plan place = Err (error.TooLarge plan.record n)
answer_of (end.StagedTooLarge k n) plan place = Err (error.TooLarge (nth place.found_staged k) n)
answer_of (end.Failed p) plan place = Err error.Disk
answer_of end.NoMemory plan place = Err error.Memory
answer_of e plan place = Err error.NotARecord

-- the names in an answer: the right's, and the record's or a staged file's
abbrev pub IsNamed : List ℕ → Result Recovered RecoverError → Type 0
IsNamed actor (Err (error.Busy name)) = name ≡ right_name actor
IsNamed actor (Err (error.TooLarge name n)) = IsLoadedBy actor name
IsNamed actor r = Unit {0}
