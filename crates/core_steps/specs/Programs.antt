-- Programs that run at once on one disk: each commits and recovers, one time after another, and their calls come in any order.
use Rattle.std.specs.Prelude.{◌≡◌, ◌⊎◌, ◌==◌, ◌-◌, ℕ, Bool, true, false, List, [], ◌∷◌, ◌++◌, map, slice_get, if◌then◌else◌}
use Rattle.std.specs.declared.option.Option.{Option}
use Rattle.std.specs.declared.option.Option.TheVariants.{Some, None}
use Rattle.host_port.specs.declared.event.Event.{Event}
use Rattle.host_port.specs.Disk.{Disk, after}
use Rattle.host_port.specs.Ends.{ended}
use Rattle.host_port.specs.Ran.{Agrees}
use Rattle.host_port.specs.Calls.{LoadFits}
use Rattle.commit_machine.specs.Jobs.{Ending, Failed}
use Rattle.commit_machine.specs.Machine.{State, Seizing, Ended}
use Rattle.commit_machine.specs.Goes.{Goes}
use Rattle.core_steps.specs.declared.actor.Actor.{Actor}
use Rattle.core_steps.specs.declared.actor.Task.{Task}
use Rattle.core_steps.specs.declared.actor.Task.TheVariants as task
use Rattle.core_steps.specs.Tasks.{job_of}
use Rattle.core_steps.specs.Turns.{Passed, may_commit, passed_at}
use Rattle.core_steps.specs.Cores.{CoreDisk, seen_by, disk_then}

-- a call of a program: the number of its actor, the commit or recovery that it is for, the call with its answer, and whether the program was
-- stopped for good inside it, so that the event says what of the call was done
pub record Deed : Type 0 where
  pub actor : ℕ
  pub task : Task
  pub event : Event
  pub stops : Bool

-- what a call makes of the disk that its actor sees; the rights of a program that stopped end
abbrev pub done_by : Disk → Deed → Disk
done_by d x = if x.stops then ended (after d x.event) else after d x.event

abbrev pub disk_once : CoreDisk → Deed → CoreDisk
disk_once d x = disk_then x.actor d (done_by (seen_by x.actor d) x)

abbrev pub disk_after : CoreDisk → List Deed → CoreDisk
disk_after d [] = d
disk_after d (x ∷ xs) = disk_after (disk_once d x) xs

-- what the actor of this number did, and for what
abbrev pub done_of : ℕ → List Deed → List (Task × Event)
done_of k [] = []
done_of k (x ∷ xs) = if x.actor == k then (x.task, x.event) ∷ done_of k xs else done_of k xs

-- Each call was answered as the disk just before it stood, as its actor saw it; no load saw a file past the limit; and who was stopped makes no
-- further call.
abbrev pub AreAnswered : CoreDisk → List Deed → Type 0
AreAnswered d [] = Unit {0}
AreAnswered d (x ∷ xs) = Agrees (seen_by x.actor d) x.event × LoadFits x.event × (x.stops ≡ true → done_of x.actor xs ≡ []) × AreAnswered (disk_once d x) xs

-- a commit or recovery that came to its end: what for, its calls, its end
pub record Work : Type 0 where
  pub task : Task
  pub calls : List Event
  pub end : Ending

-- a commit's changes are such as may be committed
abbrev pub may_begin : List Actor → Actor → Task → Bool
may_begin actors a (task.Commit changes moment) = may_commit actors a changes
may_begin actors a task.Recover = true

-- no call failed in it
abbrev pub is_whole : Ending → Bool
is_whole (Failed passed) = false
is_whole end = true

abbrev pub for_task : Task → List Event → List (Task × Event)
for_task t es = map (λ e. (t, e)) es

-- the calls of a commit or recovery that came to this end
abbrev pub IsWork : List Actor → Actor → Work → Type 0
IsWork actors a w = (may_begin actors a w.task ≡ true) × Goes (job_of a w.task) Seizing w.calls (Ended w.end) × (is_whole w.end ≡ true)

-- no calls, or those of a commit or recovery that didn't come to its end, or in which one failed
abbrev pub IsLastWork : List Actor → Actor → List (Task × Event) → Type 0
IsLastWork actors a xs = (xs ≡ []) ⊎ ((t : Task) × (es : List Event) × (s : State) × (xs ≡ for_task t es) × (may_begin actors a t ≡ true) × Goes (job_of a t) Seizing es s)

-- the calls of these commits and recoveries, one after another, and of a last one
abbrev pub AreWorks : List Actor → Actor → List Work → List (Task × Event) → Type 0
AreWorks actors a [] xs = IsLastWork actors a xs
AreWorks actors a (w ∷ ws) xs = (more : List (Task × Event)) × (xs ≡ for_task w.task w.calls ++ more) × IsWork actors a w × AreWorks actors a ws more

-- the calls of a program of this actor; there is none of an actor that isn't listed
abbrev pub IsProgram : List Actor → Option Actor → List (Task × Event) → Type 0
IsProgram actors None xs = xs ≡ []
IsProgram actors (Some a) xs = (works : List Work) × AreWorks actors a works xs

-- the actor of this number, from 1
abbrev pub actor_at : List Actor → ℕ → Option Actor
actor_at actors k = if k == 0 then None else slice_get actors (k - 1)

-- Programs of these actors, one for each, run at once on the disk: these are their calls, in the order in which they came.
pub record Run (actors : List Actor) (d : CoreDisk) (deeds : List Deed) : Type 0 where
  pub answered : AreAnswered d deeds
  pub programs : (k : ℕ) → IsProgram actors (actor_at actors k) (done_of k deeds)

-- the commit places: the publications of decided records, in order, each with the token and the changes of its commit
abbrev pub place_of : Option Actor → Deed → Disk → List Passed
place_of None x d = []
place_of (Some a) x d = passed_at a x.task x.event d

abbrev pub places_of : List Actor → CoreDisk → List Deed → List Passed
places_of actors d [] = []
places_of actors d (x ∷ xs) = place_of (actor_at actors x.actor) x (seen_by x.actor d) ++ places_of actors (disk_once d x) xs
