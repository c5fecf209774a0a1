use Rattle.std.proofs.Common.{◌≡◌, List, [], ◌∷◌, refl}
use Rattle.host_port.specs.declared.event.Event.{Event}
use Rattle.host_port.specs.declared.event.Event.TheVariants.{In, Out, Child, Edit, Now, Load, Stage, Publish, Extend, Erase, Lock, Unlock, Seize, Release, Foreign}
use Rattle.host_port.specs.Disk.{Disk, disk, after}
use Rattle.host_port.specs.Own.{own, of_others, OnlyLooks}

-- while no own event may change the disk, it is what the others make of it
pub disk-of_others : (d : Disk) (es : List Event) → OnlyLooks (own es) → disk d es ≡ disk d (of_others es)
disk-of_others d [] looks = refl
disk-of_others d (Foreign step ∷ es) looks = disk-of_others (after d (Foreign step)) es looks
disk-of_others d (In bytes failed ∷ es) looks = disk-of_others d es looks.1
disk-of_others d (Out bytes failed ∷ es) looks = disk-of_others d es looks.1
disk-of_others d (Child program args input answer failed ∷ es) looks = disk-of_others d es looks.1
disk-of_others d (Edit name shell command text answer failed ∷ es) looks = disk-of_others d es looks.1
disk-of_others d (Now seconds ∷ es) looks = disk-of_others d es looks.1
disk-of_others d (Load name seen ∷ es) looks = disk-of_others d es looks.1
disk-of_others d (Stage name bytes failed ∷ es) looks = absurd (let no = looks.0 in cc)
disk-of_others d (Publish from to done failed ∷ es) looks = absurd (let no = looks.0 in cc)
disk-of_others d (Extend name at tail failed ∷ es) looks = absurd (let no = looks.0 in cc)
disk-of_others d (Erase name done failed ∷ es) looks = absurd (let no = looks.0 in cc)
disk-of_others d (Lock name token got failed ∷ es) looks = absurd (let no = looks.0 in cc)
disk-of_others d (Unlock name token done failed ∷ es) looks = absurd (let no = looks.0 in cc)
disk-of_others d (Seize name got failed ∷ es) looks = absurd (let no = looks.0 in cc)
disk-of_others d (Release name ∷ es) looks = absurd (let no = looks.0 in cc)
