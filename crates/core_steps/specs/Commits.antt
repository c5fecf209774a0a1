-- The events of a commit, as steps of one actor.
use Rattle.std.specs.Prelude.{◌≡◌, ◌⊎◌, ℕ, ℤ, List, [], map}
use Rattle.host_port.specs.declared.event.Event.{Event}
use Rattle.host_port.specs.Disk.{Disk}
use Rattle.host_port.specs.Own.{own}
use Rattle.folder_change.specs.declared.change.Change.{Change}
use Rattle.commit_machine.specs.Jobs.{Ending}
use Rattle.core_steps.specs.declared.actor.Task.TheVariants as task
use Rattle.core_steps.specs.Shown.{with_base, IsBracketOf}

-- without a change, and for too many files, there is no call on the disk; else the events are the steps of one actor that began this commit
abbrev pub IsActorOf : List ℕ → ℕ → List Change → List (List ℕ) → Disk → List Event → Type 0
IsActorOf actor token changes base d es =
    (own es ≡ [])
    ⊎ ((time : ℤ) × (end : Ending) × IsBracketOf (record { name = actor; token = token }) (task.Commit (map (with_base base) changes) time) d es end)
