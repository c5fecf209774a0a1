-- What a run never does.
use Rattle.std.specs.Prelude.{◌≡◌, ℕ, Bool, true, false, List, ◌∷◌, ◌++◌}
use Rattle.std.specs.List.{list_any}
use Rattle.std.specs.declared.option.Option.TheVariants.{None}
use Rattle.host_port.specs.declared.event.Event.{Event}
use Rattle.host_port.specs.declared.event.Event.TheVariants.{Load, Stage, Publish, Extend, Erase, Lock, Unlock, Seize}
use Rattle.host_port.specs.declared.event.Seen.{Seen}
use Rattle.host_port.specs.declared.event.Seen.TheVariants as seen
use Rattle.host_port.specs.Disk.{Disk, disk}
use Rattle.commit_machine.specs.Settled.{Files, Mem}
use Rattle.commit_machine.specs.Jobs.{Ending, Job, all_of}
use Rattle.commit_machine.specs.Machine.{State, Ended}
use Rattle.commit_machine.specs.Lawful.{HasRight}
use Rattle.commit_machine.specs.Due.{settled_files, is_decision, files_after}
use Rattle.commit_machine.specs.Laws.{IsRun}

-- a run that ends has given up its right
abbrev pub RightIsGivenUp : Type 0
RightIsGivenUp = (j : Job) (d : Disk) (es : List Event) (end : Ending) → IsRun j d es (Ended end) → (HasRight j.actor d → ⊥) → HasRight j.actor (disk d es) → ⊥

-- a load that failed
abbrev pub is_failed_load : Seen → Bool
is_failed_load seen.Failed = true
is_failed_load s = false

-- the event of a call that failed
abbrev pub is_failed : Event → Bool
is_failed (Load n s) = is_failed_load s
is_failed (Stage n c failed) = failed
is_failed (Publish from to done failed) = failed
is_failed (Extend n at tail failed) = failed
is_failed (Erase n done failed) = failed
is_failed (Lock n t got failed) = failed
is_failed (Unlock n t done failed) = failed
is_failed (Seize n got failed) = failed
is_failed e = false

-- the event of a call that may change files or locks, or take a right
abbrev pub may_act : Event → Bool
may_act (Stage n c failed) = true
may_act (Publish from to done failed) = true
may_act (Extend n at tail failed) = true
may_act (Erase n done failed) = true
may_act (Lock n t got failed) = true
may_act (Unlock n t done failed) = true
may_act (Seize n got failed) = true
may_act e = false

-- after a failed call a run changes no file and no lock, and takes no right
abbrev pub NothingAfterAFault : Type 0
NothingAfterAFault = (j : Job) (d : Disk) (before : List Event) (e : Event) (rest : List Event) (last : State) → IsRun j d (before ++ e ∷ rest) last
    → is_failed e ≡ true → list_any may_act rest ≡ false

-- a job is decided only if it isn't refused, by its files as they are due
abbrev pub NoRefusedIsDecided : Type 0
NoRefusedIsDecided = (j : Job) (d : Disk) (before : List Event) (e : Event) (rest : List Event) (last : State)
    → IsRun j d (before ++ e ∷ rest) last
    → is_decision j e (disk d before) ≡ true
    → (files : Files) × ((n : List ℕ) → Mem n (all_of j) → files n ≡ files_after j d (settled_files j.actor d) before n) × (j.refusal files ≡ None)
