-- What a stretch of calls of a host did, by its own events.
use Rattle.std.specs.Prelude.{◌≡◌, Bool, true, false, List, [], ◌∷◌, ◌++◌, is_some, is_none}
use Rattle.std.specs.declared.option.Option.TheVariants.{Some}
use Rattle.host_port.specs.declared.event.Event.{Event}
use Rattle.host_port.specs.declared.event.Event.TheVariants.{In, Out, Load, Stage, Publish, Extend, Erase, Lock, Unlock, Seize, Release, Child, Edit, Now, Foreign}
use Rattle.host_port.specs.declared.event.Seen.TheVariants as seen
use Rattle.host_port.specs.Disk.{Disk, reaches, disk, after}
use Rattle.host_port.specs.Calls.{Counts, World, NeverFall, Rose, IsTooLarge}
use Rattle.host_port.specs.Ends.{is_owner, is_open}
use Rattle.host_port.specs.Own.{own}

-- a call was done exactly if the disk allows it, or if it failed only there
abbrev pub AllowedBy : Bool → Bool → Bool → Type 0
AllowedBy allowed done false = done ≡ allowed
AllowedBy allowed done true = done ≡ true → allowed ≡ true

-- what an event says of the disk just before it is so
abbrev pub Agrees : Disk → Event → Type 0
Agrees d (In bytes failed) = Unit {0}
Agrees d (Out bytes failed) = Unit {0}
Agrees d (Load name (seen.Bytes bytes held)) = (bytes ≡ d.files name) × (held ≡ is_some (d.locks name))
Agrees d (Load name (seen.TooLarge n)) = IsTooLarge (d.files name) n
Agrees d (Load name seen.Failed) = Unit {0}
Agrees d (Load name seen.Memory) = Unit {0}
Agrees d (Stage name bytes failed) = Unit {0}
Agrees d (Publish from to done failed) = AllowedBy (is_some (d.files from)) done failed
Agrees d (Extend name at tail failed) = failed ≡ false → reaches at (d.files name) ≡ true
Agrees d (Erase name done failed) = AllowedBy true done failed
Agrees d (Lock name token got failed) = AllowedBy (is_none (d.locks name)) got failed
Agrees d (Unlock name token done failed) = AllowedBy (is_owner token (d.locks name)) done failed
Agrees d (Seize name got failed) = AllowedBy (is_open (d.rights name)) got failed
Agrees d (Release name) = Unit {0}
Agrees d (Child program args input answer failed) = Unit {0}
Agrees d (Edit name shell command text answer failed) = Unit {0}
Agrees d (Now seconds) = Unit {0}
Agrees d (Foreign step) = Unit {0}

-- a call that failed did so only if the count of its kind rose
abbrev pub IsCounted : Counts → Counts → Event → Type 0
IsCounted old new (In bytes failed) = failed ≡ true → Rose old.ins new.ins
IsCounted old new (Out bytes failed) = failed ≡ true → Rose old.outs new.outs
IsCounted old new (Load name (seen.Bytes bytes held)) = Unit {0}
IsCounted old new (Load name (seen.TooLarge n)) = Unit {0}
IsCounted old new (Load name seen.Failed) = Rose old.disks new.disks
IsCounted old new (Load name seen.Memory) = Unit {0}
IsCounted old new (Stage name bytes failed) = failed ≡ true → Rose old.disks new.disks
IsCounted old new (Publish from to done failed) = failed ≡ true → Rose old.disks new.disks
IsCounted old new (Extend name at tail failed) = failed ≡ true → Rose old.disks new.disks
IsCounted old new (Erase name done failed) = failed ≡ true → Rose old.disks new.disks
IsCounted old new (Lock name token got failed) = failed ≡ true → Rose old.disks new.disks
IsCounted old new (Unlock name token done failed) = failed ≡ true → Rose old.disks new.disks
IsCounted old new (Seize name got failed) = failed ≡ true → Rose old.disks new.disks
IsCounted old new (Child program args input answer failed) = failed ≡ true → Rose old.children new.children
IsCounted old new (Edit name shell command text answer failed) = failed ≡ true → Rose old.children new.children
IsCounted old new (Release name) = Unit {0}
IsCounted old new (Now seconds) = Unit {0}
IsCounted old new (Foreign step) = Unit {0}

abbrev pub AreCounted : Counts → Counts → List Event → Type 0
AreCounted old new [] = Unit {0}
AreCounted old new (e ∷ es) = IsCounted old new e × AreCounted old new es

-- each event says what is so
abbrev pub Honest : Disk → List Event → Type 0
Honest d [] = Unit {0}
Honest d (e ∷ es) = Agrees d e × Honest (after d e) es

-- the events that were added to a trace while the counts went from old to new, of which the own ones are such
pub record Stretch (start : Disk) (old new : Counts) (before now : List Event) (P : List Event → Type 0) : Type 0 where
  pub added : List Event
  pub is : now ≡ before ++ added
  pub honest : Honest (disk start before) added
  pub counted : AreCounted old new added
  pub own_ones : P (own added)

-- From old to new the host was called so: if it is told in the end, the own events are such, and each call that failed was counted.
pub record Ran {H : Type 0} (w : World H) (old new : H) (P : List Event → Type 0) : Type 0 where
  pub start_is : w.start new ≡ w.start old
  pub never_fall : NeverFall (w.counts old) (w.counts new)
  pub told_is : (now : List Event) → w.told new ≡ Some now → (before : List Event) × (w.told old ≡ Some before) × Stretch (w.start old) (w.counts old) (w.counts new) before now P
