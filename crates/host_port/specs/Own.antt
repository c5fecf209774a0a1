-- The events of this run, and those of others.
use Rattle.std.specs.Prelude.{◌≡◌, Bool, true, false, List, [], ◌∷◌}
use Rattle.host_port.specs.declared.event.Event.{Event}
use Rattle.host_port.specs.declared.event.Event.TheVariants.{In, Out, Load, Stage, Publish, Extend, Erase, Lock, Unlock, Seize, Release, Child, Edit, Now, Foreign}

-- the events that are this run's own
abbrev pub own : List Event → List Event
own [] = []
own (Foreign step ∷ es) = own es
own (e ∷ es) = e ∷ own es

-- the steps of others
abbrev pub of_others : List Event → List Event
of_others [] = []
of_others (Foreign step ∷ es) = Foreign step ∷ of_others es
of_others (e ∷ es) = of_others es

-- events of the calls that may change the disk
abbrev pub may_change : Event → Bool
may_change (In bytes failed) = false
may_change (Out bytes failed) = false
may_change (Load name seen) = false
may_change (Stage name bytes failed) = true
may_change (Publish from to done failed) = true
may_change (Extend name at tail failed) = true
may_change (Erase name done failed) = true
may_change (Lock name token got failed) = true
may_change (Unlock name token done failed) = true
may_change (Seize name got failed) = true
may_change (Release name) = true
may_change (Child program args input answer failed) = false
may_change (Edit name shell command text answer failed) = false
may_change (Now seconds) = false
may_change (Foreign step) = false

-- none of these events is of a call that may change the disk
abbrev pub OnlyLooks : List Event → Type 0
OnlyLooks [] = Unit {0}
OnlyLooks (e ∷ es) = (may_change e ≡ false) × OnlyLooks es
