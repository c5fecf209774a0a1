-- What a commit leaves, whatever others lawfully do meanwhile and wherever it stops.
use Rattle.std.specs.Prelude.{◌≡◌, ◌⊎◌, ◌≤◌, ℕ, true, false, List, [], ◌∷◌, ◌++◌, None, length}
use Rattle.std.specs.List.{list_any}
use Rattle.std.specs.declared.result.Result.{Result}
use Rattle.std.specs.declared.result.Result.TheVariants.{Ok, Err}
use Rattle.host_port.specs.declared.event.Event.{Event}
use Rattle.host_port.specs.Disk.{Disk, disk}
use Rattle.host_port.specs.Calls.{Counts, Rose}
use Rattle.folder_change.specs.declared.change.Change.{Change}
use Rattle.folder_change.specs.Apply.{apply}
use Rattle.commit_record.specs.Format.{file_limit}
use Rattle.commit_machine.specs.Refusals.{first_refusal}
use Rattle.commit_machine.specs.Jobs.{Job}
use Rattle.commit_machine.specs.Edits.{first_names, job_for}
use Rattle.commit_machine.specs.Lawful.{IsSound, IsFresh, OthersAreLawful}
use Rattle.commit_machine.specs.Due.{settled_files, is_decision}
use Rattle.commit_machine.specs.Laws.{decisions}
use Rattle.commit_machine.specs.Runs.{made_after, MetAnother, is_hindrance, RunsSafely}
use Rattle.commit_driver.specs.declared.step.Passed.{Passed}
use Rattle.commit_driver.specs.declared.step.Passed.TheVariants.{Before, After, Unknown}
use Rattle.folder_commit.specs.declared.error.CommitError.{CommitError}
use Rattle.folder_commit.specs.declared.error.CommitError.TheVariants as error
use Rattle.folder_commit.specs.Told.{refusal_told}

-- A commit begins on a disk that is sound and carries nothing of its token, and others do only what is lawful.
pub record MayCommit (actor : List ℕ) (token : ℕ) (d : Disk) (es : List Event) : Type 0 where
  pub fresh : IsFresh actor token d
  pub sound : IsSound actor d
  pub lawful : OthersAreLawful actor token d es

-- how often a commit was decided when a call failed
abbrev pub PassedSo : Passed → ℕ → Type 0
PassedSo Before n = n ≡ 0
PassedSo After n = n ≡ 1
PassedSo Unknown n = (n ≡ 0) ⊎ (n ≡ 1)

-- how often a commit with this answer was decided
abbrev pub DecidedSo : Result Unit CommitError → ℕ → Type 0
DecidedSo (Ok u) n = n ≡ 1
DecidedSo (Err (error.Disk passed)) n = PassedSo passed n
DecidedSo (Err why) n = n ≡ 0

-- no call failed
abbrev pub MetNoFault : Result Unit CommitError → Type 0
MetNoFault (Err (error.Disk passed)) = ⊥
MetNoFault result = Unit {0}

-- A commit is a safe run, whose decision makes all its changes, in order, of the files as they are due then. The answer says whether there was a decision, and at a decision all changes can
-- be made on the files as they are due just before it. If no call failed, nothing of the token is left in the end. Busy says whose right or lock
-- another had.
pub record CommitsSafely (j : Job) (changes : List Change) (base : List (List ℕ)) (d : Disk) (es : List Event) (result : Result Unit CommitError) : Type 0 where
  pub run : RunsSafely (apply changes base) j d es
  pub decided : DecidedSo result (decisions j d 0 es)
  pub fits : (front rest : List Event) (e : Event) → es ≡ front ++ e ∷ rest → is_decision j e (disk d front) ≡ true
      → first_refusal changes base (made_after (apply changes base) j d (settled_files j.actor d) front) ≡ None
  pub nothing_left : MetNoFault result → IsFresh j.actor j.token (disk d es)
  pub busy : (name : List ℕ) → result ≡ Err (error.Busy name) → MetAnother j.token d es name

-- A commit of changes of 256 files at most is safe; without a change there is none. What it makes of the disk doesn't depend on its time.
abbrev pub IsSafe : List ℕ → ℕ → List Change → List (List ℕ) → Disk → List Event → Result Unit CommitError → Type 0
IsSafe actor token [] base d es result = Unit {0}
IsSafe actor token (c ∷ cs) base d es result = length (first_names (c ∷ cs)) ≤ file_limit → CommitsSafely (job_for actor token (c ∷ cs) base) (c ∷ cs) base d es result

-- Nothing hinders a commit of changes, by its own events: it is one of 256 files at most, it meets nobody else's right or lock and no file past the
-- limit, the record reads, and the changes can be made of what is loaded.
pub record IsUnhindered (actor : List ℕ) (changes : List Change) (base : List (List ℕ)) (es : List Event) : Type 0 where
  pub few : length (first_names changes) ≤ file_limit
  pub free : list_any (is_hindrance actor) es ≡ false
  pub can : refusal_told changes base es ≡ None

-- it is done, or memory was wanting
abbrev pub IsOkOrMemory : Result Unit CommitError → Type 0
IsOkOrMemory (Ok u) = Unit {0}
IsOkOrMemory (Err error.Memory) = Unit {0}
IsOkOrMemory (Err why) = ⊥

-- if no count of faults rises and nothing hinders a commit, it is done, or memory ran out
abbrev pub IsComplete : List ℕ → List Change → List (List ℕ) → List Event → Counts → Counts → Result Unit CommitError → Type 0
IsComplete actor changes base es before now result = (Rose before.disks now.disks → ⊥) → IsUnhindered actor changes base es → IsOkOrMemory result
