-- What commits, one after another, make of files.
use Rattle.std.specs.Prelude.{◌≡◌, ℕ, List, [], ◌∷◌, ◌++◌, take}
use Rattle.std.specs.declared.result.Result.{Result}
use Rattle.host_port.specs.declared.event.Event.{Event}
use Rattle.host_port.specs.declared.event.Event.TheVariants.{Foreign}
use Rattle.host_port.specs.Disk.{Disk, after, after_step}
use Rattle.folder_change.specs.Apply.{Files, apply}
use Rattle.commit_machine.specs.Due.{settled_files}
use Rattle.commit_machine.specs.Laws.{decisions}
use Rattle.commit_machine.specs.Rows.{first_job}
use Rattle.session_play.specs.Committing.{Commit}
use Rattle.session_play.specs.declared.stop.Stop.{Stop}
use Rattle.play_safety.specs.Passes.{Commits}
use Rattle.play_safety.specs.Safe.{IsCrashSafe}
use Rattle.play_safety.specs.Appended.{IsLeft}

-- the files once these commits, in order, have made all their changes
abbrev pub made_by : List Commit → Files → Files
made_by [] files = files
made_by (c ∷ cs) files = made_by cs (apply c.changes c.base files)

-- no step of others among these events changes what is settled of this file
abbrev pub OthersLeave : List ℕ → List ℕ → Disk → List Event → Type 0
OthersLeave actor n d [] = Unit {0}
OthersLeave actor n d (Foreign step ∷ es) = (settled_files actor (after_step d step) n ≡ settled_files actor d n) × OthersLeave actor n (after_step d step) es
OthersLeave actor n d (e ∷ es) = OthersLeave actor n (after d e) es

-- the commits of a run that were decided in these events: as many of the first ones as the events have decisions
abbrev pub decided_in : List ℕ → ℕ → Disk → Commits → List Event → List Commit
decided_in actor token d commits es = take (decisions (first_job actor token []) d 0 es) (commits.accepted ++ commits.pending)

-- At each moment of a run that is crash safe, and at each disk that a stop leaves, a file that others leave alone is what the commits that were decided
-- so far, one after another, make of it as it was at first.
abbrev pub CommitsAddUp : Type 0
CommitsAddUp = (actor : List ℕ) (token : ℕ) (d now : Disk) (es seen : List Event) (commits : Commits) (out : Result Unit Stop) (n : List ℕ)
    → IsCrashSafe actor token d es commits out → IsLeft d es seen now → OthersLeave actor n d seen
    → settled_files actor now n ≡ made_by (decided_in actor token d commits seen) (settled_files actor d) n
