-- Who has rights after an event of an actor, and once it has stopped.
use Rattle.std.specs.Prelude.{◌≡◌, ◌==◌, ℕ, Bool, true, false, List, Option, Some, None, if◌then◌else◌}
use Rattle.host_port.specs.declared.event.Event.{Event}
use Rattle.host_port.specs.declared.event.Event.TheVariants as event
use Rattle.host_port.specs.declared.event.Seen.TheVariants as seen
use Rattle.host_port.specs.declared.event.Part.{Part}
use Rattle.host_port.specs.Disk.{Disk, with_at}
use Rattle.host_port.specs.Ends.{cut_short}
use Rattle.memory_disk.specs.Lists.{lookup}
use Rattle.core_steps.specs.Cores.{CoreDisk}
use Rattle.actor_disk.specs.declared.seeing.Lists.{Lists}

-- the disk that lists show
abbrev pub shown_disk : Lists → CoreDisk
shown_disk l = record { files = lookup l.files; locks = lookup l.locks; holders = lookup l.holders }

-- both disks are the same, at each name
pub record SameDisks (left right : CoreDisk) : Type 0 where
  pub files : (q : List ℕ) → left.files q ≡ right.files q
  pub locks : (q : List ℕ) → left.locks q ≡ right.locks q
  pub holders : (q : List ℕ) → left.holders q ≡ right.holders q

-- a right that the actor of this number gives up; another's stays
abbrev pub given_up : ℕ → Option ℕ → Option ℕ
given_up k None = None
given_up k (Some holder) = if holder == k then None else Some holder

-- after an event of the actor of this number
abbrev pub held_after : ℕ → Event → (List ℕ → Option ℕ) → List ℕ → Option ℕ
held_after k (event.Seize n true failed) held = with_at held n (Some k)
held_after k (event.Release n) held = with_at held n (given_up k (held n))
held_after k e held = held

-- a call whose event this is may fail: it asks for no time and gives up no right
abbrev pub may_fail : Event → Bool
may_fail (event.Now time) = false
may_fail (event.Release n) = false
may_fail e = true

-- the event of a call that was to be this, and fails with this part of it done; a load does nothing
abbrev pub failed_as : Disk → Event → Part → Event
failed_as d (event.Load n s) part = event.Load n seen.Failed
failed_as d e part = cut_short d e part
