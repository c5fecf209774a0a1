-- What the events of calls on the disk say is so, whether the calls were carried out or failed.
use Rattle.std.proofs.Common.{◌≡◌, ℕ, List, Bool, true, false, not, refl, sym, subst, ◌&&◌}
use Rattle.std.specs.declared.result.Result.{Result}
use Rattle.std.specs.declared.result.Result.TheVariants.{Ok, Err}
use Rattle.std.specs.Prelude.{is_some, is_none}
use Rattle.host_port.specs.declared.event.Event.{Event}
use Rattle.host_port.specs.declared.event.Event.TheVariants.{In, Out, Child, Edit, Now, Load, Stage, Publish, Extend, Erase, Lock, Unlock, Seize, Release, Foreign}
use Rattle.host_port.specs.declared.event.Part.{Part}
use Rattle.host_port.specs.declared.host.DiskFault.{DiskFault}
use Rattle.host_port.specs.Calls.{Staged, Published, Extended, Erased, Locked, Unlocked, Seized, Released}
use Rattle.host_port.specs.Disk.{Disk, reaches}
use Rattle.host_port.specs.Ends.{is_after, is_owner, is_open, carried_out, cut_short}
use Rattle.host_port.specs.Own.{may_change}
use Rattle.host_port.specs.Ran.{Agrees}

right-of : (a b : Bool) → (a && b) ≡ true → b ≡ true
right-of true b is = is
right-of false b is = cc

agrees-along : (d : Disk) (e whole : Event) → e ≡ whole → Agrees d whole → Agrees d e
agrees-along d e whole is agrees = subst (Agrees d) (sym is) agrees

pub staged-agrees : (name bytes : List ℕ) (r : Result Unit DiskFault) (d : Disk) (e : Event) → Staged name bytes r d e → Agrees d e
staged-agrees name bytes (Ok u) d e is = agrees-along d e _ is tt
staged-agrees name bytes (Err fault) d e is = agrees-along d e _ is.1 tt

pub published-agrees : (from to : List ℕ) (r : Result Bool DiskFault) (d : Disk) (e : Event) → Published from to r d e → Agrees d e
published-agrees from to (Ok done) d e is = agrees-along d e _ is.0 is.1
published-agrees from to (Err fault) d e is = agrees-along d e _ is.1 (right-of (is_after is.0) (is_some (d.files from)))

pub extended-agrees : (name : List ℕ) (at : ℕ) (bytes : List ℕ) (r : Result Unit DiskFault) (d : Disk) (e : Event) → Extended name at bytes r d e → Agrees d e
extended-agrees name at bytes (Ok u) d e is = agrees-along d e _ is.0 (λ fine. is.1)
extended-agrees name at bytes (Err fault) d e is = agrees-along d e _ is.1 (λ fine. absurd (cc))

pub not-false : (b : Bool) → not b ≡ false → b ≡ true
not-false true h = refl
not-false false h = absurd (cc)

pub erased-agrees : (name : List ℕ) (r : Result Unit DiskFault) (d : Disk) (e : Event) → Erased name r d e → Agrees d e
erased-agrees name (Ok u) d e is = agrees-along d e _ is refl
erased-agrees name (Err fault) d e is = agrees-along d e _ is.1 (λ done. refl)

pub locked-agrees : (name : List ℕ) (token : ℕ) (r : Result Bool DiskFault) (d : Disk) (e : Event) → Locked name token r d e → Agrees d e
locked-agrees name token (Ok got) d e is = agrees-along d e _ is.0 is.1
locked-agrees name token (Err fault) d e is = agrees-along d e _ is.1 (right-of (is_after is.0) (is_none (d.locks name)))

pub unlocked-agrees : (name : List ℕ) (token : ℕ) (r : Result Unit DiskFault) (d : Disk) (e : Event) → Unlocked name token r d e → Agrees d e
unlocked-agrees name token (Ok u) d e is = agrees-along d e _ is refl
unlocked-agrees name token (Err fault) d e is = agrees-along d e _ is.1 (right-of (is_after is.0) (is_owner token (d.locks name)))

pub seized-agrees : (name : List ℕ) (r : Result Bool DiskFault) (d : Disk) (e : Event) → Seized name r d e → Agrees d e
seized-agrees name (Ok got) d e is = agrees-along d e _ is.0 is.1
seized-agrees name (Err fault) d e is = agrees-along d e _ is.1 (right-of (is_after is.0) (is_open (d.rights name)))

pub released-agrees : (name : List ℕ) (d : Disk) (e : Event) → Released name d e → Agrees d e
released-agrees name d e is = agrees-along d e _ is tt

pub carried-agrees : (d : Disk) (e : Event) → may_change e ≡ true → Agrees d (carried_out d e)
carried-agrees d (In bytes failed) may = absurd (cc)
carried-agrees d (Out bytes failed) may = absurd (cc)
carried-agrees d (Child program args input answer failed) may = absurd (cc)
carried-agrees d (Edit name shell command text answer failed) may = absurd (cc)
carried-agrees d (Now seconds) may = absurd (cc)
carried-agrees d (Load name seen) may = absurd (cc)
carried-agrees d (Stage name bytes failed) may = tt
carried-agrees d (Publish from to done failed) may = refl
carried-agrees d (Extend name at tail failed) may = not-false (reaches at (d.files name))
carried-agrees d (Erase name done failed) may = refl
carried-agrees d (Lock name token got failed) may = refl
carried-agrees d (Unlock name token done failed) may = refl
carried-agrees d (Seize name got failed) may = refl
carried-agrees d (Release name) may = tt
carried-agrees d (Foreign step) may = absurd (cc)

pub cut-agrees : (d : Disk) (e : Event) (part : Part) → may_change e ≡ true → Agrees d (cut_short d e part)
cut-agrees d (In bytes failed) part may = absurd (cc)
cut-agrees d (Out bytes failed) part may = absurd (cc)
cut-agrees d (Child program args input answer failed) part may = absurd (cc)
cut-agrees d (Edit name shell command text answer failed) part may = absurd (cc)
cut-agrees d (Now seconds) part may = absurd (cc)
cut-agrees d (Load name seen) part may = absurd (cc)
cut-agrees d (Stage name bytes failed) part may = tt
cut-agrees d (Publish from to done failed) part may = right-of (is_after part) (is_some (d.files from))
cut-agrees d (Extend name at tail failed) part may = λ fine. absurd (cc)
cut-agrees d (Erase name done failed) part may = λ done. refl
cut-agrees d (Lock name token got failed) part may = right-of (is_after part) (is_none (d.locks name))
cut-agrees d (Unlock name token done failed) part may = right-of (is_after part) (is_owner token (d.locks name))
cut-agrees d (Seize name got failed) part may = right-of (is_after part) (is_open (d.rights name))
cut-agrees d (Release name) part may = tt
cut-agrees d (Foreign step) part may = absurd (cc)
