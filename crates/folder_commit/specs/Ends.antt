-- How a commit ends, and the machine with it.
use Rattle.std.specs.Prelude.{◌≡◌, ◌⊎◌, ◌<◌, ℕ, false, List, length}
use Rattle.std.specs.List.{list_any}
use Rattle.std.specs.declared.result.Result.{Result}
use Rattle.std.specs.declared.result.Result.TheVariants.{Ok, Err}
use Rattle.host_port.specs.declared.event.Event.{Event}
use Rattle.host_port.specs.Calls.{Counts, Rose, load_limit}
use Rattle.commit_machine.specs.Names.{record_name, right_name, staged_name}
use Rattle.commit_machine.specs.Settled.{Mem}
use Rattle.commit_machine.specs.Jobs.{Ending, Done, Refused, Failed, Job, all_of}
use Rattle.commit_machine.specs.Jobs as jobs
use Rattle.commit_machine.specs.Machine.{Seizing, Ended}
use Rattle.commit_machine.specs.Goes.{Goes}
use Rattle.commit_driver.specs.declared.step.Passed.{Passed}
use Rattle.commit_driver.specs.declared.step.Passed.TheVariants.{Before, After, Unknown}
use Rattle.commit_driver.specs.Places.{WantedAs}
use Rattle.commit_driver.specs.Did.{LoadsFit}
use Rattle.commit_driver.specs.Drives.{is_past_limit}
use Rattle.folder_commit.specs.declared.error.CommitError.{CommitError}
use Rattle.folder_commit.specs.declared.error.CommitError.TheVariants as error

-- a call failed: before the decision, after it, or where it isn't known which
abbrev pub FailedAs : Passed → Ending → Type 0
FailedAs Before end = end ≡ Failed jobs.Before
FailedAs After end = end ≡ Failed jobs.After
FailedAs Unknown end = end ≡ Failed jobs.Unknown

-- what is said of the answer of a commit of files of these names
abbrev pub AnswersAs : List (List ℕ) → Result Unit CommitError → Ending → Type 0
AnswersAs files (Ok u) end = end ≡ Done
AnswersAs files (Err (error.Busy name)) end = end ≡ Refused (jobs.Busy name)
AnswersAs files (Err error.Record) end = end ≡ Refused jobs.NotARecord
AnswersAs files (Err (error.Changed name at)) end = end ≡ Refused (jobs.Changed name at)
AnswersAs files (Err (error.TooLarge name length)) end = end ≡ Refused (jobs.TooLarge name length)
AnswersAs files (Err (error.Disk passed)) end = FailedAs passed end
AnswersAs files (Err error.Memory) end = WantedAs files end
AnswersAs files (Err (error.TooManyNames count)) end = ⊥

-- running out of memory hides no load that met too many bytes
abbrev pub AnswersWithin : List Event → Result Unit CommitError → Type 0
AnswersWithin es (Err error.Memory) = list_any is_past_limit es ≡ false
AnswersWithin es result = Unit {0}

-- The events carry the machine of a job from its start to its end, as the answer says, and no load saw a file past the limit.
pub record Commits (j : Job) (es : List Event) (result : Result Unit CommitError) : Type 0 where
  pub end : Ending
  pub is_as : AnswersAs (all_of j) result end
  pub within : AnswersWithin es result
  pub fit : LoadsFit es
  pub goes : Goes j Seizing es (Ended end)

-- the disk is told only if its count rose, and too many bytes only past the limit
abbrev pub CommitCause : Counts → Counts → Result Unit CommitError → Type 0
CommitCause before now (Err (error.Disk passed)) = Rose before.disks now.disks
CommitCause before now (Err (error.TooLarge name length)) = load_limit < length
CommitCause before now result = Unit {0}

-- the name of a staged file
abbrev pub IsStagedName : List ℕ → Type 0
IsStagedName name = (token : ℕ) × (file : List ℕ) × (name ≡ staged_name token file)

-- the names in an answer: the right's, the record's, that of a staged file of a removal that was found, and those of files of the commit
abbrev pub AreNamed : List ℕ → List (List ℕ) → Result Unit CommitError → Type 0
AreNamed actor files (Err (error.Busy name)) = (name ≡ right_name actor) ⊎ Mem name files
AreNamed actor files (Err (error.Changed name at)) = Mem name files
AreNamed actor files (Err (error.TooLarge name n)) = IsStagedName name ⊎ ((name ≡ record_name actor) ⊎ Mem name files)
AreNamed actor files (Err (error.TooManyNames count)) = count ≡ length files
AreNamed actor files result = Unit {0}
