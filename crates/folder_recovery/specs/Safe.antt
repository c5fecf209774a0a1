-- What a recovery leaves, whatever others lawfully do meanwhile and wherever it stops.
use Rattle.std.specs.Prelude.{◌≡◌, ◌<◌, ◌^◌, ℕ, false, List, [], ◌∷◌, ◌++◌, Some, None}
use Rattle.std.specs.List.{list_any}
use Rattle.std.specs.declared.result.Result.{Result}
use Rattle.std.specs.declared.result.Result.TheVariants.{Ok, Err}
use Rattle.host_port.specs.declared.event.Event.{Event}
use Rattle.host_port.specs.declared.event.Event.TheVariants.{Release}
use Rattle.host_port.specs.Disk.{Disk, disk}
use Rattle.host_port.specs.Calls.{World, Counts, Rose}
use Rattle.host_port.specs.Own.{own}
use Rattle.commit_machine.specs.Edits.{recovery_for}
use Rattle.commit_machine.specs.Names.{record_name, right_name}
use Rattle.commit_machine.specs.Lawful.{IsSound, IsFresh, OthersAreLawful}
use Rattle.commit_machine.specs.Due.{settled_files, settled_locks}
use Rattle.commit_machine.specs.Runs.{MetAnother, is_hindrance, RunsSafely}
use Rattle.commit_driver.specs.declared.step.Recovered.{Recovered}
use Rattle.folder_recovery.specs.declared.error.RecoverError.{RecoverError}
use Rattle.folder_recovery.specs.declared.error.RecoverError.TheVariants as error

-- From old to new the host was called so: if it is told, all events that were added, and the disk before them, are such.
abbrev pub WhereTold : {H : Type 0} → World H → H → H → (Disk → List Event → Type 0) → Type 0
WhereTold w old new P = (before es : List Event) → w.told old ≡ Some before → w.told new ≡ Some (before ++ es) → P (disk (w.start old) before) es

-- A recovery begins on a disk that is sound, and others do only what is lawful. Some token is nobody's: of such a one the lawful
-- steps speak, and a recovery itself has none.
pub record MayRecover (actor : List ℕ) (token : ℕ) (d : Disk) (es : List Event) : Type 0 where
  pub token_fits : token < 2 ^ 64
  pub fresh : IsFresh actor token d
  pub sound : IsSound actor d
  pub lawful : OthersAreLawful actor token d es

-- no record stands, and the disk is its own settled disk
pub record IsSettled (actor : List ℕ) (d : Disk) : Type 0 where
  pub none : d.files (record_name actor) ≡ None
  pub files : (n : List ℕ) → settled_files actor d n ≡ d.files n
  pub locks : (n : List ℕ) → settled_locks actor d n ≡ d.locks n

-- A recovery is a safe run that decides nothing: at every moment, and at every image of a stop, the settled files and locks are those of the
-- start but for what others did, and the disk is sound, so that it can be recovered again. When a recovery that is done gives up its right the disk
-- is settled. Busy is answered if another had the right.
pub record RecoversSafely (actor : List ℕ) (token : ℕ) (d : Disk) (es : List Event) (result : Result Recovered RecoverError) : Type 0 where
  pub run : RunsSafely (λ files. files) (recovery_for actor token) d es
  pub ends : (front rest : List Event) (found : Recovered) → es ≡ front ++ Release (right_name actor) ∷ rest → own rest ≡ [] → result ≡ Ok found
      → IsSettled actor (disk d (front ++ Release (right_name actor) ∷ []))
  pub busy : (name : List ℕ) → result ≡ Err (error.Busy name) → MetAnother token d es name

-- it is done, or memory was wanting
abbrev pub IsOkOrMemory : Result Recovered RecoverError → Type 0
IsOkOrMemory (Ok found) = Unit {0}
IsOkOrMemory (Err error.Memory) = Unit {0}
IsOkOrMemory (Err why) = ⊥

-- if no count of faults rises and nothing hinders a recovery, it is done, or memory ran out
abbrev pub IsComplete : List ℕ → List Event → Counts → Counts → Result Recovered RecoverError → Type 0
IsComplete actor es before now result = (Rose before.disks now.disks → ⊥) → list_any (is_hindrance actor) es ≡ false → IsOkOrMemory result
