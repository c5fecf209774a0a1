-- What holds of any run, whatever its job: what is due at each moment and at each stop, and what it meets.
use Rattle.std.specs.Prelude.{◌≡◌, ◌≢◌, ◌⊎◌, ◌&&◌, ℕ, Bool, true, false, List, [], ◌∷◌, ◌++◌, is_none, if◌then◌else◌}
use Rattle.std.specs.List.{list_any}
use Rattle.std.specs.Str.{bytes_eq}
use Rattle.std.specs.declared.option.Option.{Option}
use Rattle.std.specs.declared.option.Option.TheVariants.{Some, None}
use Rattle.host_port.specs.declared.event.Event.{Event}
use Rattle.host_port.specs.declared.event.Event.TheVariants.{Load, Publish, Lock, Seize, Foreign}
use Rattle.host_port.specs.declared.event.Seen.TheVariants as seen
use Rattle.host_port.specs.declared.event.Holder.TheVariants.{Other}
use Rattle.host_port.specs.declared.event.Part.{Part}
use Rattle.host_port.specs.Disk.{Disk, disk, after, after_step}
use Rattle.host_port.specs.Ends.{stopped}
use Rattle.host_port.specs.Own.{own}
use Rattle.commit_machine.specs.Names.{record_name, new_name}
use Rattle.commit_machine.specs.Records.{record_of}
use Rattle.commit_machine.specs.Settled.{Files, Mem}
use Rattle.commit_machine.specs.Jobs.{Ending, Job, edits_of}
use Rattle.commit_machine.specs.Machine.{Ended}
use Rattle.commit_machine.specs.Lawful.{HasRight}
use Rattle.commit_machine.specs.Due.{settled_files, settled_locks, applied, same_file, renewed, is_decision, locks_after}
use Rattle.commit_machine.specs.Laws.{IsRun, IsSettledAs, in_flight}
use Rattle.commit_machine.specs.Restraints.{is_failed, may_act}
use Rattle.commit_machine.specs.EventRows.{is_call}

-- the files due after one more event, if a decision makes this of them
abbrev pub made_then : (Files → Files) → Job → Event → Disk → Files → Files
made_then make j (Foreign f) d files n = renewed same_file (settled_files j.actor d n) (settled_files j.actor (after_step d f) n) (files n)
made_then make j e d files n = if is_decision j e d then make files n else files n

abbrev pub made_after : (Files → Files) → Job → Disk → Files → List Event → Files
made_after make j d files [] = files
made_after make j d files (e ∷ es) = made_after make j (after d e) (made_then make j e d files) es

-- the files and locks that are due after events from a disk, if a decision makes this of the files
abbrev pub IsDueAs : (Files → Files) → Job → Disk → List Event → Disk → Type 0
IsDueAs make j d es now = IsSettledAs j.actor now (made_after make j d (settled_files j.actor d) es) (locks_after j d (settled_locks j.actor d) es)

-- the lock stands with another token than this one
abbrev pub IsOthers : ℕ → Option ℕ → Type 0
IsOthers token None = ⊥
IsOthers token (Some owner) = owner ≢ token

-- another had the right of this name when the run wanted it, or a lock of this file stood with another token than the run's
abbrev pub MetAnother : ℕ → Disk → List Event → List ℕ → Type 0
MetAnother token d es name = (front : List Event) × (rest : List Event)
    × (((es ≡ front ++ Seize name false false ∷ rest) × ((disk d front).rights name ≡ Some Other))
    ⊎ ((t : ℕ) × (es ≡ front ++ Lock name t false false ∷ rest) × IsOthers token ((disk d front).locks name)))

-- what hinders a run: another's right or lock, a file past the limit, or bytes as the record that are none
abbrev pub is_hindrance : List ℕ → Event → Bool
is_hindrance actor (Seize n false failed) = true
is_hindrance actor (Lock n t false failed) = true
is_hindrance actor (Load n (seen.TooLarge length)) = true
is_hindrance actor (Load n (seen.Bytes (Some bytes) held)) = bytes_eq n (record_name actor) && is_none (record_of bytes)
is_hindrance actor e = false

-- At every moment, and at every image of a stop, the settled files are those that the accepted changes and others make, the settled locks are
-- those of others, and the disk is sound. In the end the right is given up, and after a failed call no file and no lock is changed and no right
-- taken. Where a record is made it is published: no publication of it is answered false but by a fault. A seizure is answered false only while
-- another has the right, and a lock only while one stands with another token than the run's. The own events are calls on the disk, or ask for the time.
pub record RunsSafely (make : Files → Files) (j : Job) (d : Disk) (es : List Event) : Type 0 where
  pub moments : (front rest : List Event) → es ≡ front ++ rest → IsDueAs make j d front (disk d front)
  pub stops : (front rest : List Event) (e : Event) (part : Part) → es ≡ front ++ e ∷ rest → IsDueAs make j d (front ++ in_flight (disk d front) e part) (stopped (disk d front) e part)
  pub right_given_up : (HasRight j.actor d → ⊥) → HasRight j.actor (disk d es) → ⊥
  pub nothing_after_a_fault : (front rest : List Event) (e : Event) → es ≡ front ++ e ∷ rest → is_failed e ≡ true → list_any may_act rest ≡ false
  pub published : (front rest : List Event) (to : List ℕ) → es ≡ front ++ Publish (new_name j.actor) to false false ∷ rest → ⊥
  pub kept_out : (front rest : List Event) (n : List ℕ) → es ≡ front ++ Seize n false false ∷ rest → (disk d front).rights n ≡ Some Other
  pub locked_out : (front rest : List Event) (n : List ℕ) (t : ℕ) → es ≡ front ++ Lock n t false false ∷ rest → IsOthers j.token ((disk d front).locks n)
  pub only_calls : (e : Event) → Mem e (own es) → is_call e ≡ true

-- a run that ended is safe, if this is what the job's edits make of the files
abbrev pub RunsAreSafe : Type 0
RunsAreSafe = (make : Files → Files) (j : Job) (d : Disk) (es : List Event) (end : Ending)
    → ((files : Files) (n : List ℕ) → applied (edits_of j) files n ≡ make files n)
    → IsRun j d es (Ended end) → RunsSafely make j d es
