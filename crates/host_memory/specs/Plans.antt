-- The events of calls on the disk by a plan.
use Rattle.std.specs.Prelude.{◌≡◌, ◌||◌, Bool, true, false, not, List, ◌++◌, map, is_some}
use Rattle.std.specs.declared.option.Option.{Option}
use Rattle.std.specs.declared.option.Option.TheVariants.{Some, None}
use Rattle.std.specs.declared.result.Result.{Result}
use Rattle.std.specs.declared.result.Result.TheVariants.{Ok, Err}
use Rattle.host_port.specs.declared.event.Event.{Event}
use Rattle.host_port.specs.declared.event.Event.TheVariants.{Publish, Extend, Lock, Seize, Foreign}
use Rattle.host_port.specs.declared.event.ForeignStep.{ForeignStep}
use Rattle.host_port.specs.declared.event.Part.{Part}
use Rattle.host_port.specs.declared.host.DiskFault.{DiskFault}
use Rattle.host_port.specs.Disk.{Disk, reaches, disk}
use Rattle.host_port.specs.Ends.{carried_out, cut_short, IsCutShort}
use Rattle.host_memory.specs.declared.tape.Tape.{Tape}
use Rattle.host_memory.specs.Views.{AddsOne, AddsCall, disk_of}

-- the event of a call as a plan has it: carried out, or failing with this part done
abbrev pub as_planned : Disk → Event → Option Part → Event
as_planned d whole None = carried_out d whole
as_planned d whole (Some part) = cut_short d whole part

-- the disk refuses a call: it would extend a file that is absent or shorter
abbrev pub is_refused : Disk → Event → Bool
is_refused d (Extend name at tail failed) = not (reaches at (d.files name))
is_refused d e = false

-- what a call answers that is carried out: a fault if the disk refuses it, and else a truth, if it can answer false
abbrev pub answer_of : Event → Result Bool DiskFault
answer_of (Publish from to done failed) = Ok done
answer_of (Extend name at tail true) = Err (record {})
answer_of (Extend name at tail false) = Ok true
answer_of (Lock name token got failed) = Ok got
answer_of (Seize name got failed) = Ok got
answer_of e = Ok true

-- a call was carried out and answers so, or it failed
abbrev pub Ended : Event → Result Bool DiskFault → Disk → Event → Type 0
Ended whole (Ok answer) d e = (e ≡ carried_out d whole) × (Ok answer ≡ answer_of e)
Ended whole (Err fault) d e = IsCutShort d whole e

-- A trace with the steps of others and one call more, which is as the plan has it: it fails exactly if the plan has a
-- part for it or the disk refuses it.
pub record AddsPlanned (start : Disk) (old new : List Event) (steps : List ForeignStep) (whole : Event) (part : Option Part) (failed : Bool) : Type 0 where
  pub fails : failed ≡ (is_some part || is_refused (disk start (old ++ map Foreign steps)) whole)
  pub is : AddsOne old new steps (as_planned (disk start (old ++ map Foreign steps)) whole part)

-- a tape has more: steps of others, and then this event
abbrev pub TapeAdds : Tape → Tape → List ForeignStep → Event → Type 0
TapeAdds old new steps e = AddsOne old.trace.items new.trace.items steps e

-- steps of others, and then an event that happened so
abbrev pub TapeAddsCall : Tape → Tape → List ForeignStep → (Disk → Event → Type 0) → Type 0
TapeAddsCall old new steps Happened = AddsCall (disk_of old.start.files old.start.locks) old.trace.items new.trace.items steps Happened

-- steps of others, and then an event as it was planned
abbrev pub TapeAddsPlanned : Tape → Tape → List ForeignStep → Event → Option Part → Bool → Type 0
TapeAddsPlanned old new steps whole part failed =
    AddsPlanned (disk_of old.start.files old.start.locks) old.trace.items new.trace.items steps whole part failed
