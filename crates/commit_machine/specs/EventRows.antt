-- What each event says, one row an event: no event is left to a row for the others.
use Rattle.std.specs.Prelude.{◌≡◌, Bool, true, false}
use Rattle.host_port.specs.declared.event.Event.{Event}
use Rattle.host_port.specs.declared.event.Event.TheVariants as event
use Rattle.host_port.specs.declared.event.Seen.{Seen}
use Rattle.host_port.specs.declared.event.Seen.TheVariants as seen
use Rattle.host_port.specs.Disk.{Disk, after}
use Rattle.host_port.specs.Own.{may_change}
use Rattle.commit_machine.specs.Machine.{Reply, Went, Saw, Long, Short, Fault}
use Rattle.commit_machine.specs.Goes.{reply}
use Rattle.commit_machine.specs.Laws.{is_foreign}
use Rattle.commit_machine.specs.Restraints.{is_failed, may_act}

-- the answer of an event, whether its call failed, whether its call may change a file or a lock or take a right, and whether it may change the disk
pub record EventRow : Type 0 where
  pub answer : Reply
  pub failed : Bool
  pub acts : Bool
  pub changes : Bool

abbrev pub row : Reply → Bool → Bool → Bool → EventRow
row answer failed acts changes = record { answer = answer; failed = failed; acts = acts; changes = changes }

abbrev pub load_row : Seen → EventRow
load_row (seen.Bytes bytes held) = row (Saw bytes) false false false
load_row (seen.TooLarge length) = row (Long length) false false false
load_row seen.Failed = row Fault true false false
load_row seen.Memory = row Short false false false

-- a call that may be done, and may fail
abbrev pub call_row : Bool → Bool → EventRow
call_row done true = row Fault true true true
call_row done false = row (Went done) false true true

abbrev pub event_row : Event → EventRow
event_row (event.In bytes failed) = row (Went true) false false false
event_row (event.Out bytes failed) = row (Went true) false false false
event_row (event.Child program args input answer failed) = row (Went true) false false false
event_row (event.Edit name shell command text answer failed) = row (Went true) false false false
event_row (event.Now seconds) = row (Went true) false false false
event_row (event.Load name seen) = load_row seen
event_row (event.Stage name bytes failed) = call_row true failed
event_row (event.Publish from to done failed) = call_row done failed
event_row (event.Extend name at tail failed) = call_row true failed
event_row (event.Erase name done failed) = call_row done failed
event_row (event.Lock name token got failed) = call_row got failed
event_row (event.Unlock name token done failed) = call_row done failed
event_row (event.Seize name got failed) = call_row got failed
event_row (event.Release name) = row (Went true) false false true
event_row (event.Foreign step) = row (Went true) false false false

-- the event is a call on the disk
abbrev pub is_disk : Event → Bool
is_disk (event.In bytes failed) = false
is_disk (event.Out bytes failed) = false
is_disk (event.Child program args input answer failed) = false
is_disk (event.Edit name shell command text answer failed) = false
is_disk (event.Now seconds) = false
is_disk (event.Load name seen) = true
is_disk (event.Stage name bytes failed) = true
is_disk (event.Publish from to done failed) = true
is_disk (event.Extend name at tail failed) = true
is_disk (event.Erase name done failed) = true
is_disk (event.Lock name token got failed) = true
is_disk (event.Unlock name token done failed) = true
is_disk (event.Seize name got failed) = true
is_disk (event.Release name) = true
is_disk (event.Foreign step) = false

-- the event is a call on the disk, or asks for the time
abbrev pub is_call : Event → Bool
is_call (event.Now seconds) = true
is_call e = is_disk e

-- each event is as its row says, and an own one that may not change the disk leaves it
pub record IsAsItsRow (e : Event) : Type 0 where
  pub answer : reply e ≡ (event_row e).answer
  pub failed : is_failed e ≡ (event_row e).failed
  pub acts : may_act e ≡ (event_row e).acts
  pub changes : may_change e ≡ (event_row e).changes
  pub keeps : (d : Disk) → is_foreign e ≡ false → (event_row e).changes ≡ false → after d e ≡ d

abbrev pub EventsHaveRows : Type 0
EventsHaveRows = (e : Event) → IsAsItsRow e
