-- What each program of a run sees of it: its own calls, and what others did between them.
use Rattle.std.specs.Prelude.{◌≡◌, ◌⊎◌, ◌==◌, ℕ, Bool, true, false, List, [], ◌∷◌, ◌++◌, map}
use Rattle.host_port.specs.declared.event.Event.{Event}
use Rattle.host_port.specs.declared.event.Event.TheVariants.{Foreign}
use Rattle.host_port.specs.declared.event.ForeignStep.{ForeignStep}
use Rattle.host_port.specs.Disk.{Disk, disk}
use Rattle.host_port.specs.Own.{own}
use Rattle.host_port.specs.Ran.{Honest}
use Rattle.host_port.specs.Calls.{LoadFits}
use Rattle.commit_machine.specs.Settled.{Files, Locks, Mem}
use Rattle.commit_machine.specs.Laws.{is_foreign}
use Rattle.core_steps.specs.declared.actor.Actor.{Actor}
use Rattle.core_steps.specs.Cores.{CoreDisk, seen_by}
use Rattle.core_steps.specs.Starts.{begun}
use Rattle.core_steps.specs.Programs.{Deed, disk_once, done_of, IsProgram, actor_at, Run}

-- Of a call that takes the disk from old to now, one that made it sees its event, and another sees steps that take the disk there.
abbrev pub SeesOne : Bool → Disk → Disk → Event → List Event → List Event → Type 0
SeesOne true old now e es more = (es ≡ e ∷ more) × (is_foreign e ≡ false)
SeesOne false old now e es more = (steps : List ForeignStep) × (es ≡ map Foreign steps ++ more) × (disk old (map Foreign steps) ≡ now)

-- the events that the actor of this number sees of the calls
abbrev pub Sees : ℕ → CoreDisk → List Deed → List Event → Type 0
Sees k d [] es = Unit {0}
Sees k d (x ∷ xs) es = (more : List Event) × SeesOne (x.actor == k) (seen_by k d) (seen_by k (disk_once d x)) x.event es more × Sees k (disk_once d x) xs more

-- The actor of this number makes no call, or has a trace of what it sees, of which each event says what is so, and in which no own load saw a file
-- past the limit.
abbrev pub IsTraced : ℕ → CoreDisk → List Deed → Type 0
IsTraced k d deeds = (done_of k deeds ≡ [])
    ⊎ ((es : List Event) × Sees k d deeds es × Honest (seen_by k d) es × ((e : Event) → Mem e (own es) → LoadFits e))

-- who was stopped makes no further call
abbrev pub StopsAreLast : List Deed → Type 0
StopsAreLast [] = Unit {0}
StopsAreLast (x ∷ xs) = (x.stops ≡ true → done_of x.actor xs ≡ []) × StopsAreLast xs

-- Programs whose traces are told, and are honest, and whose own events in these are the calls of commits and recoveries, run at once.
abbrev pub TracesAreRuns : Type 0
TracesAreRuns = (files : Files) (locks : Locks) (actors : List Actor) (deeds : List Deed)
    → ((k : ℕ) → IsTraced k (begun files locks actors).disk deeds) → StopsAreLast deeds
    → ((k : ℕ) → IsProgram actors (actor_at actors k) (done_of k deeds)) → Run actors (begun files locks actors).disk deeds
