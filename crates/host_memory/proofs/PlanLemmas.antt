-- A call on the disk that is told as a plan has it.
use Rattle.std.proofs.Common.{◌≡◌, ◌∙◌, ◌||◌, ℕ, Bool, true, false, not, List, [], ◌∷◌, ◌++◌, map, refl, sym, ap, append_assoc}
use Rattle.std.specs.Prelude.{is_err, is_some}
use Rattle.std.specs.declared.option.Option.{Option}
use Rattle.std.specs.declared.option.Option.TheVariants.{Some, None}
use Rattle.std.specs.declared.result.Result.{Result}
use Rattle.std.specs.declared.result.Result.TheVariants.{Ok, Err}
use Rattle.host_port.specs.declared.event.Event.{Event}
use Rattle.host_port.specs.declared.event.Event.TheVariants.{In, Out, Child, Edit, Now, Load, Stage, Publish, Extend, Erase, Lock, Unlock, Seize, Release, Foreign}
use Rattle.host_port.specs.declared.event.ForeignStep.{ForeignStep}
use Rattle.host_port.specs.declared.event.Part.{Part}
use Rattle.host_port.specs.declared.event.Part.TheVariants.{After}
use Rattle.host_port.specs.declared.host.DiskFault.{DiskFault}
use Rattle.host_port.specs.Disk.{Disk, reaches, disk}
use Rattle.host_port.specs.Ends.{carried_out, IsCutShort}
use Rattle.host_memory.specs.Plans.{as_planned, is_refused, answer_of, Ended}
use Rattle.host_port.specs.Disk.{SameDisk}
use Rattle.host_memory.specs.Views.{AddsOne}
use Rattle.memory_disk.proofs.ReplayLemmas.{same-disk}

-- what a call is planned as on the disk that then stands
pub same-planned : (start start' now : Disk) (old mid : List Event) (steps : List ForeignStep) (whole : Event) (part part' : Option Part)
    → start' ≡ start → mid ≡ old ++ map Foreign steps → SameDisk now (disk start' mid) → part' ≡ part
    → as_planned now whole part' ≡ as_planned (disk start (old ++ map Foreign steps)) whole part
same-planned start start' now old mid steps whole part part' same_start same_mid shows same_part =
    ap (as_planned now whole) same_part ∙ ap (λ d. as_planned d whole part) (same-disk _ _ shows ∙ ap (λ s. disk s mid) same_start ∙ ap (disk start) same_mid)

-- the steps of others are told, and then the event that was made of the call on the disk that then stood
pub told-as-planned : (start start' now : Disk) (old mid new : List Event) (steps : List ForeignStep) (whole own : Event) (part part' : Option Part) → start' ≡ start → mid ≡ old ++ map Foreign steps
    → SameDisk now (disk start' mid) → own ≡ as_planned now whole part' → part' ≡ part → new ≡ mid ++ own ∷ []
    → AddsOne old new steps (as_planned (disk start (old ++ map Foreign steps)) whole part)
told-as-planned start start' now old mid new steps whole own part part' same_start same_mid shows own_is same_part is =
    is ∙ ap (λ m. m ++ own ∷ []) same_mid ∙ append_assoc old (map Foreign steps) (own ∷ [])
    ∙ ap (λ e. old ++ (map Foreign steps ++ e ∷ [])) (own_is ∙ same-planned start start' now old mid steps whole part part' same_start same_mid shows same_part)

-- a call that is carried out is answered a fault exactly if the disk refuses it
pub refused-is : (d : Disk) (whole : Event) → is_err (answer_of (carried_out d whole)) ≡ is_refused d whole
refused-is d (In bytes failed) = refl
refused-is d (Out bytes failed) = refl
refused-is d (Child program args input answer failed) = refl
refused-is d (Edit name shell command text answer failed) = refl
refused-is d (Now seconds) = refl
refused-is d (Load name seen) = refl
refused-is d (Stage name bytes failed) = refl
refused-is d (Publish from to done failed) = refl
refused-is d (Extend name at tail failed) = go (not (reaches at (d.files name)))
  where
    go : (b : Bool) → is_err (answer_of (Extend name at tail b)) ≡ b
    go true = refl
    go false = refl
refused-is d (Erase name done failed) = refl
refused-is d (Lock name token got failed) = refl
refused-is d (Unlock name token done failed) = refl
refused-is d (Seize name got failed) = refl
refused-is d (Release name) = refl
refused-is d (Foreign step) = refl

-- a call that the disk refuses has its failing form
refused-cut : (d : Disk) (whole : Event) (fault : DiskFault) → answer_of (carried_out d whole) ≡ Err fault → IsCutShort d whole (carried_out d whole)
refused-cut d (In bytes failed) fault is = absurd (cc is)
refused-cut d (Out bytes failed) fault is = absurd (cc is)
refused-cut d (Child program args input answer failed) fault is = absurd (cc is)
refused-cut d (Edit name shell command text answer failed) fault is = absurd (cc is)
refused-cut d (Now seconds) fault is = absurd (cc is)
refused-cut d (Load name seen) fault is = absurd (cc is)
refused-cut d (Stage name bytes failed) fault is = absurd (cc is)
refused-cut d (Publish from to done failed) fault is = absurd (cc is)
refused-cut d (Extend name at tail failed) fault is = (After, go (not (reaches at (d.files name))) is)
  where
    go : (b : Bool) → answer_of (Extend name at tail b) ≡ Err fault → Extend name at tail b ≡ Extend name at tail true
    go true is = refl
    go false is = absurd (cc is)
refused-cut d (Erase name done failed) fault is = absurd (cc is)
refused-cut d (Lock name token got failed) fault is = absurd (cc is)
refused-cut d (Unlock name token done failed) fault is = absurd (cc is)
refused-cut d (Seize name got failed) fault is = absurd (cc is)
refused-cut d (Release name) fault is = absurd (cc is)
refused-cut d (Foreign step) fault is = absurd (cc is)

-- a call that is carried out ends as it is answered
pub ended-so : (d : Disk) (whole : Event) (r : Result Bool DiskFault) → r ≡ answer_of (carried_out d whole) → Ended whole r d (carried_out d whole)
ended-so d whole (Ok answer) is = (refl, is)
ended-so d whole (Err fault) is = refused-cut d whole fault (sym is)

-- a call that the plan has no part for is answered a fault exactly if the disk refuses it
pub fails-so : (d : Disk) (whole : Event) (part : Option Part) (r : Result Bool DiskFault) → None ≡ part → r ≡ answer_of (as_planned d whole part) → is_err r ≡ (is_some part || is_refused d whole)
fails-so d whole None r none is = ap is_err is ∙ refused-is d whole
fails-so d whole (Some part) r none is = absurd (cc none)

-- an extension that isn't answered a fault was allowed by the disk
pub extended-of : (b : Bool) (name : List ℕ) (at : ℕ) (tail : List ℕ) (answer : Bool) (e : Event) → e ≡ Extend name at tail (not b)
    → Ok answer ≡ answer_of e → (e ≡ Extend name at tail false) × (b ≡ true)
extended-of true name at tail answer e is answered = (is, refl)
extended-of false name at tail answer e is answered = absurd (cc (answered ∙ ap answer_of is))
