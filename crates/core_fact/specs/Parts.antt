-- How a call of one is told to another, as steps that touch nothing else.
use Rattle.std.specs.Prelude.{◌≡◌, ℕ, true, false, List, [], ◌∷◌, map}
use Rattle.std.specs.declared.option.Option.TheVariants.{Some}
use Rattle.host_port.specs.declared.event.Event.{Event}
use Rattle.host_port.specs.declared.event.Event.TheVariants as event
use Rattle.host_port.specs.declared.event.ForeignStep.{ForeignStep}
use Rattle.host_port.specs.declared.event.ForeignStep.TheVariants.{Write, Remove, Lock, Unlock, Seize, Release}
use Rattle.host_port.specs.declared.event.Holder.TheVariants.{Own}
use Rattle.host_port.specs.Disk.{after, disk}
use Rattle.host_port.specs.Ran.{Agrees}
use Rattle.commit_machine.specs.Settled.{Mem}
use Rattle.commit_machine.specs.Laws.{is_foreign}
use Rattle.core_steps.specs.Cores.{CoreDisk, seen_by}
use Rattle.core_steps.specs.Programs.{Deed, disk_once}

-- the files that a call may write, those that it may remove, and the locks that it may put or take away
abbrev pub written_by : Event → List (List ℕ)
written_by (event.Stage n c failed) = n ∷ []
written_by (event.Publish from to true failed) = to ∷ []
written_by (event.Extend n at tail failed) = n ∷ []
written_by e = []

abbrev pub removed_by : Event → List (List ℕ)
removed_by (event.Stage n c failed) = n ∷ []
removed_by (event.Publish from to true failed) = from ∷ []
removed_by (event.Erase n done failed) = n ∷ []
removed_by e = []

abbrev pub locks_of : Event → List (List ℕ × ℕ)
locks_of (event.Lock n t got failed) = (n, t) ∷ []
locks_of (event.Unlock n t done failed) = (n, t) ∷ []
locks_of e = []

-- a step that may tell a part of this call: it does to no file and no lock what the call doesn't
abbrev pub IsPartOf : Event → ForeignStep → Type 0
IsPartOf e (Write n bytes) = Mem n (written_by e)
IsPartOf e (Remove n) = Mem n (removed_by e)
IsPartOf e (Lock n t) = Mem (n, t) (locks_of e)
IsPartOf e (Unlock n t) = Mem (n, t) (locks_of e)
IsPartOf e (Seize n) = Unit {0}
IsPartOf e (Release n) = Unit {0}

-- Each call of another can be told by such steps, as it was answered. Where the caller is killed in it, it is asked that it has one right at most then.
abbrev pub CallsCanBeTold : Type 0
CallsCanBeTold = (k : ℕ) (d : CoreDisk) (x : Deed) (right : List ℕ) → (x.actor ≡ k → ⊥) → is_foreign x.event ≡ false → Agrees (seen_by x.actor d) x.event
    → (x.stops ≡ true → (q : List ℕ) → (after (seen_by x.actor d) x.event).rights q ≡ Some Own → q ≡ right)
    → (steps : List ForeignStep) × ((f : ForeignStep) → Mem f steps → IsPartOf x.event f) × (disk (seen_by k d) (map event.Foreign steps) ≡ seen_by k (disk_once d x))
