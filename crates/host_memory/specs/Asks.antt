-- What is asked of the disk of a host in memory.
use Rattle.std.specs.Prelude.{true, false}
use Rattle.std.specs.declared.option.Option.TheVariants.{Some}
use Rattle.host_port.specs.declared.event.Event.{Event}
use Rattle.host_port.specs.declared.event.Event.TheVariants as event
use Rattle.host_memory.specs.declared.disk_calls.Asked.{Asked}
use Rattle.host_memory.specs.declared.disk_calls.Asked.TheVariants.{Stage, Publish, Extend, Erase, Lock, Unlock, Seize}

-- the event of a call that does all that is asked
abbrev pub event_of : Asked → Event
event_of (Stage name bytes) = event.Stage name.now (Some bytes.now) false
event_of (Publish from to) = event.Publish from.now to.now true false
event_of (Extend name at tail) = event.Extend name.now at tail.now false
event_of (Erase name) = event.Erase name.now true false
event_of (Lock name token) = event.Lock name.now token true false
event_of (Unlock name token) = event.Unlock name.now token true false
event_of (Seize name) = event.Seize name.now true false
