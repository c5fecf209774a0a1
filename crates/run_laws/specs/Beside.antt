-- Runs of others at once: what they do is lawful, so that what is promised of a run stands beside them.
use Rattle.std.specs.Prelude.{◌≡◌, ℕ, true, false, List, [], ◌∷◌, ◌++◌, map}
use Rattle.std.specs.declared.option.Option.TheVariants.{Some, None}
use Rattle.host_port.specs.declared.event.Event.{Event}
use Rattle.host_port.specs.declared.event.Event.TheVariants as event
use Rattle.host_port.specs.declared.event.ForeignStep.{ForeignStep}
use Rattle.host_port.specs.Disk.{Disk, disk}
use Rattle.host_port.specs.Own.{may_change}
use Rattle.commit_record.specs.Names.{is_lawful}
use Rattle.commit_machine.specs.Settled.{Files, Locks, Mem}
use Rattle.commit_machine.specs.Laws.{is_foreign}
use Rattle.commit_machine.specs.Lawful.{standing}
use Rattle.core_steps.specs.declared.actor.Actor.{Actor}
use Rattle.core_steps.specs.Cores.{CoreDisk, seen_by}
use Rattle.core_steps.specs.Turns.{is_any_record_name}
use Rattle.core_steps.specs.Starts.{begun, MayBegin}
use Rattle.core_steps.specs.Programs.{Deed, disk_once, actor_at}
use Rattle.folder_commit.specs.Safe.{MayCommit}
use Rattle.core_fact.specs.Parts.{IsPartOf}
use Rattle.run_laws.specs.Together.{IsGoing, calls_of, AreTold}

-- A trace of the actor of this number among these calls, up to a moment: its own calls, looks beside them, and each call of another as steps that tell
-- parts of it and lead from the disk just before it to the disk just after it. A call in which the actor is killed is its last event.
pub data Beside (k : ℕ) : CoreDisk → List Deed → List Event → Type 0 where
  ends : {d : CoreDisk} {xs : List Deed} → Beside k d xs []
  looks : {d : CoreDisk} {xs : List Deed} {e : Event} {es : List Event} → is_foreign e ≡ false → may_change e ≡ false → Beside k d xs es → Beside k d xs (e ∷ es)
  calls : {d : CoreDisk} {x : Deed} {xs : List Deed} {es : List Event} → x.actor ≡ k → x.stops ≡ false → Beside k (disk_once d x) xs es → Beside k d (x ∷ xs) (x.event ∷ es)
  killed : {d : CoreDisk} {x : Deed} {xs : List Deed} → x.actor ≡ k → Beside k d (x ∷ xs) (x.event ∷ [])
  others : {d : CoreDisk} {x : Deed} {xs : List Deed} {es : List Event} (steps : List ForeignStep) → (x.actor ≡ k → ⊥)
      → ((f : ForeignStep) → Mem f steps → IsPartOf x.event f) → disk (seen_by k d) (map event.Foreign steps) ≡ seen_by k (disk_once d x)
      → Beside k (disk_once d x) xs es → Beside k d (x ∷ xs) (map event.Foreign steps ++ es)

-- a call that takes or gives up a right, or takes a file away while no record of this name stands, or only looks
abbrev pub IsQuiet : List ℕ → Disk → Event → Type 0
IsQuiet name d (event.Seize n got failed) = Unit {0}
IsQuiet name d (event.Release n) = Unit {0}
IsQuiet name d (event.Erase n done failed) = standing name d ≡ None
IsQuiet name d e = may_change e ≡ false

-- others with the actor's name commit nothing and recover no record: so it is of a call that is refused the right, and of a recovery that finds none
abbrev pub SameNameIsQuiet : List Actor → ℕ → Actor → CoreDisk → List Deed → Type 0
SameNameIsQuiet actors k a d [] = Unit {0}
SameNameIsQuiet actors k a d (x ∷ xs) =
    ((b : Actor) → actor_at actors x.actor ≡ Some b → b.name ≡ a.name → (x.actor ≡ k → ⊥) → IsQuiet a.name (seen_by x.actor d) x.event)
    × SameNameIsQuiet actors k a (disk_once d x) xs

-- a lock stands on names that files may have alone, and on no record of these actors
abbrev pub LocksAreOnFiles : Locks → List Actor → Type 0
LocksAreOnFiles locks actors = (n : List ℕ) (t : ℕ) → locks n ≡ Some t → (is_lawful n ≡ true) × (is_any_record_name actors n ≡ false)

-- Beside any number of runs and deliveries, of which each came to its end, goes on still or was killed, all is met that is asked of the
-- disk and of others for the crash promise of a run or of a delivery: all may begin on the disk of the start, on which locks are on files alone, each call
-- was answered as the disk stood, and others of the same name commit nothing and recover no record meanwhile.
abbrev pub RunsAreLawful : Type 0
RunsAreLawful = (files : Files) (locks : Locks) (actors : List Actor) (deeds : List Deed) → MayBegin files locks actors → LocksAreOnFiles locks actors
    → AreTold (begun files locks actors).disk deeds → ((k : ℕ) → IsGoing actors (actor_at actors k) (calls_of k deeds))
    → (k : ℕ) (a : Actor) (es : List Event) → actor_at actors k ≡ Some a
    → SameNameIsQuiet actors k a (begun files locks actors).disk deeds
    → Beside k (begun files locks actors).disk deeds es → MayCommit a.name a.token (seen_by k (begun files locks actors).disk) es
