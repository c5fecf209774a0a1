-- The files and locks that events leave once all is settled.
use Rattle.std.specs.Prelude.{ℕ, Bool, true, false, ◌&&◌, ◌==◌, List, [], ◌∷◌, if◌then◌else◌}
use Rattle.std.specs.declared.option.Option.{Option}
use Rattle.std.specs.declared.option.Option.TheVariants.{Some, None}
use Rattle.std.specs.Str.{bytes_eq}
use Rattle.host_port.specs.declared.event.Event.{Event}
use Rattle.host_port.specs.declared.event.Event.TheVariants.{Publish, Foreign}
use Rattle.host_port.specs.Disk.{Disk, after, after_step}
use Rattle.commit_machine.specs.Names.{record_name, new_name}
use Rattle.commit_machine.specs.Records.{record_in}
use Rattle.commit_machine.specs.Settled.{Files, Locks, settled, settled_lock}
use Rattle.commit_machine.specs.Jobs.{Edit, Job, edits_of, outcome_of}
use Rattle.commit_machine.specs.Machine.{is_own_go}

abbrev pub settled_files : List ℕ → Disk → Files
settled_files actor d = settled actor d.files

abbrev pub settled_locks : List ℕ → Disk → Locks
settled_locks actor d = settled_lock actor d.files d.locks

-- the files with each edit made
abbrev pub applied : List Edit → Files → Files
applied [] files n = files n
applied (e ∷ es) files n = if bytes_eq n e.name then outcome_of e (files n) else applied es files n

-- the decision: the publication of a record of the run's token that says so
abbrev pub is_decision : Job → Event → Disk → Bool
is_decision j (Publish from to true failed) d = (bytes_eq from (new_name j.actor) && bytes_eq to (record_name j.actor)) && is_own_go j (record_in (d.files (new_name j.actor)))
is_decision j e d = false

abbrev pub same_file : Option (List ℕ) → Option (List ℕ) → Bool
same_file None None = true
same_file (Some a) (Some b) = bytes_eq a b
same_file a b = false

abbrev pub same_lock : Option ℕ → Option ℕ → Bool
same_lock None None = true
same_lock (Some a) (Some b) = a == b
same_lock a b = false

-- a step of others puts the new content if it changes the settled one
abbrev pub renewed : {A : Type 0} → (Option A → Option A → Bool) → Option A → Option A → Option A → Option A
renewed same old new value = if same old new then value else new

-- the files due after one more event
abbrev pub files_then : Job → Event → Disk → Files → Files
files_then j (Foreign f) d files n = renewed same_file (settled_files j.actor d n) (settled_files j.actor (after_step d f) n) (files n)
files_then j e d files n = if is_decision j e d then applied (edits_of j) files n else files n

abbrev pub files_after : Job → Disk → Files → List Event → Files
files_after j d files [] = files
files_after j d files (e ∷ es) = files_after j (after d e) (files_then j e d files) es

-- the locks due after one more event: those of others
abbrev pub locks_then : Job → Event → Disk → Locks → Locks
locks_then j (Foreign f) d locks n = renewed same_lock (settled_locks j.actor d n) (settled_locks j.actor (after_step d f) n) (locks n)
locks_then j e d locks n = locks n

abbrev pub locks_after : Job → Disk → Locks → List Event → Locks
locks_after j d locks [] = locks
locks_after j d locks (e ∷ es) = locks_after j (after d e) (locks_then j e d locks) es
