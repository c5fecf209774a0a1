-- How a call on the disk ends: carried out, failing with a part of it done, or with the run stopped inside it.
use Rattle.std.specs.Prelude.{◌≡◌, ◌==◌, ◌&&◌, ℕ, Bool, true, false, not, List, [], drop, is_some, is_none, if◌then◌else◌}
use Rattle.std.specs.declared.option.Option.{Option}
use Rattle.std.specs.declared.option.Option.TheVariants.{Some, None}
use Rattle.host_port.specs.declared.event.Event.{Event}
use Rattle.host_port.specs.declared.event.Event.TheVariants.{In, Out, Load, Stage, Publish, Extend, Erase, Lock, Unlock, Seize, Release, Child, Edit, Now, Foreign}
use Rattle.host_port.specs.declared.event.Part.{Part}
use Rattle.host_port.specs.declared.event.Part.TheVariants.{Before, After, Bytes, Nothing}
use Rattle.host_port.specs.declared.event.Holder.{Holder}
use Rattle.host_port.specs.declared.event.Holder.TheVariants.{Own, Other}
use Rattle.host_port.specs.Disk.{Disk, reaches, after, after_step, without_own}

-- the lock's owner is this one
abbrev pub is_owner : ℕ → Option ℕ → Bool
is_owner token None = false
is_owner token (Some owner) = owner == token

-- no other has the right
abbrev pub is_open : Option Holder → Bool
is_open None = true
is_open (Some Own) = true
is_open (Some Other) = false

-- The event of a call that is carried out on a disk. It is done exactly if the disk allows it: a rename if its
-- file stands, a lock if none stands, an unlock if the lock is the caller's, a seizure if no other has the right. An
-- extension of a file that is absent or shorter fails.
abbrev pub carried_out : Disk → Event → Event
carried_out d (In bytes failed) = In bytes failed
carried_out d (Out bytes failed) = Out bytes failed
carried_out d (Load name seen) = Load name seen
carried_out d (Stage name bytes failed) = Stage name bytes false
carried_out d (Publish from to done failed) = Publish from to (is_some (d.files from)) false
carried_out d (Extend name at tail failed) = Extend name at tail (not (reaches at (d.files name)))
carried_out d (Erase name done failed) = Erase name true false
carried_out d (Lock name token got failed) = Lock name token (is_none (d.locks name)) false
carried_out d (Unlock name token done failed) = Unlock name token (is_owner token (d.locks name)) false
carried_out d (Seize name got failed) = Seize name (is_open (d.rights name)) false
carried_out d (Release name) = Release name
carried_out d (Child program args input answer failed) = Child program args input answer failed
carried_out d (Edit name shell command text answer failed) = Edit name shell command text answer failed
carried_out d (Now seconds) = Now seconds
carried_out d (Foreign step) = Foreign step

-- all of the call was done
abbrev pub is_after : Part → Bool
is_after After = true
is_after part = false

-- what stands at a name where a file was to be written whole
abbrev pub left : Option (List ℕ) → Option (List ℕ) → Part → Option (List ℕ)
left old whole Before = old
left old whole After = whole
left old whole (Bytes bytes) = Some bytes
left old whole Nothing = None

-- what stands behind so many bytes of a file
abbrev pub tail_of : ℕ → Option (List ℕ) → List ℕ
tail_of at None = []
tail_of at (Some bytes) = drop at bytes

-- what stands there where another tail was to be written
abbrev pub left_tail : List ℕ → List ℕ → Part → List ℕ
left_tail old whole Before = old
left_tail old whole After = whole
left_tail old whole (Bytes bytes) = bytes
left_tail old whole Nothing = old

-- The failing form of an event, with the part of the call that was done. What is written whole may be left as any bytes
-- or as none, and a tail as any bytes; every other call is done or not, and done only if the disk allows it.
abbrev pub cut_short : Disk → Event → Part → Event
cut_short d (In bytes failed) part = In bytes failed
cut_short d (Out bytes failed) part = Out bytes failed
cut_short d (Load name seen) part = Load name seen
cut_short d (Stage name bytes failed) part = Stage name (left (d.files name) bytes part) true
cut_short d (Publish from to done failed) part = Publish from to (is_after part && is_some (d.files from)) true
cut_short d (Extend name at tail failed) part = Extend name at (left_tail (tail_of at (d.files name)) tail part) true
cut_short d (Erase name done failed) part = Erase name (is_after part) true
cut_short d (Lock name token got failed) part = Lock name token (is_after part && is_none (d.locks name)) true
cut_short d (Unlock name token done failed) part = Unlock name token (is_after part && is_owner token (d.locks name)) true
cut_short d (Seize name got failed) part = Seize name (is_after part && is_open (d.rights name)) true
cut_short d (Release name) part = Release name
cut_short d (Child program args input answer failed) part = Child program args input answer failed
cut_short d (Edit name shell command text answer failed) part = Edit name shell command text answer failed
cut_short d (Now seconds) part = Now seconds
cut_short d (Foreign step) part = Foreign step

-- an event is a failing form of another
abbrev pub IsCutShort : Disk → Event → Event → Type 0
IsCutShort d whole e = (part : Part) × (e ≡ cut_short d whole part)

-- the disk that a run leaves when it ends: its rights end with it, and all else stays
abbrev pub ended : Disk → Disk
ended d = record d { rights = λ q. without_own (d.rights q) }

-- The disk that is left when the run stops inside an event: what a failing form of the event makes of the disk. A step
-- of another is done or not done.
abbrev pub stopped : Disk → Event → Part → Disk
stopped d (Foreign step) part = ended (if is_after part then after_step d step else d)
stopped d e part = ended (after d (cut_short d e part))
