-- What one call of a host adds to its trace.
use Rattle.std.specs.Prelude.{◌≡◌, ◌+◌, ◌-◌, ◌^◌, ◌<◌, ◌≤◌, min, ℕ, ℤ, Bool, true, false, List, [], ◌∷◌, ◌++◌, map, take, is_some, is_none, length}
use Rattle.std.specs.declared.option.Option.{Option}
use Rattle.std.specs.declared.option.Option.TheVariants.{Some, None}
use Rattle.std.specs.declared.result.Result.{Result}
use Rattle.std.specs.declared.result.Result.TheVariants.{Ok, Err}
use Rattle.host_port.specs.declared.event.Event.{Event}
use Rattle.host_port.specs.declared.event.Event.TheVariants.{In, Out, Load, Stage, Publish, Extend, Erase, Lock, Unlock, Seize, Release, Child, Edit, Now, Foreign}
use Rattle.host_port.specs.declared.event.Seen.TheVariants as seen
use Rattle.host_port.specs.declared.event.ForeignStep.{ForeignStep}
use Rattle.host_port.specs.declared.event.LoadAnswer.{LoadAnswer}
use Rattle.host_port.specs.declared.host.InFault.{InFault}
use Rattle.host_port.specs.declared.host.OutFault.{OutFault}
use Rattle.host_port.specs.declared.host.DiskFault.{DiskFault}
use Rattle.host_port.specs.declared.host.LoadError.{LoadError}
use Rattle.host_port.specs.declared.host.LoadError.TheVariants as error
use Rattle.host_port.specs.declared.event.ChildAnswer.{ChildAnswer}
use Rattle.host_port.specs.declared.event.EditAnswer.{EditAnswer}
use Rattle.host_port.specs.declared.host.ChildError.{ChildError}
use Rattle.host_port.specs.declared.host.ChildError.TheVariants as child_error
use Rattle.host_port.specs.Disk.{Disk, reaches, disk}
use Rattle.host_port.specs.Ends.{is_owner, is_open, IsCutShort}

-- how often each kind of call has failed
pub record Counts : Type 0 where
  pub ins : ℕ
  pub outs : ℕ
  pub disks : ℕ
  pub children : ℕ

-- what is told of the outside over hosts: the disk before the first event, each event so far, while they are told, and the counts of failed calls
pub record World (H : Type 0) : Type 0 where
  pub start : H → Disk
  pub told : H → Option (List Event)
  pub counts : H → Counts

-- no count falls
pub record NeverFall (old new : Counts) : Type 0 where
  pub ins : old.ins ≤ new.ins
  pub outs : old.outs ≤ new.outs
  pub disks : old.disks ≤ new.disks
  pub children : old.children ≤ new.children

-- a count is greater, or stands at the last value of a 64-bit counter
abbrev pub Rose : ℕ → ℕ → Type 0
Rose before now = min (before + 1) (2 ^ 64 - 1) ≤ now

-- the piece of a trace that one call makes: steps of others, and its own event on the disk that then stands
pub record Call (start : Disk) (before now : List Event) (Happened : Disk → Event → Type 0) : Type 0 where
  pub steps : List ForeignStep
  pub own : Event
  pub is : now ≡ before ++ (map Foreign steps ++ own ∷ [])
  pub happened : Happened (disk start (before ++ map Foreign steps)) own

-- while the trace is told after the call, it was told before, and the call added such a piece
pub record Calls {H : Type 0} (w : World H) (old new : H) (Happened : Disk → Event → Type 0) : Type 0 where
  pub added : (now : List Event) → w.told new ≡ Some now → (before : List Event) × (w.told old ≡ Some before) × Call (w.start old) before now Happened

-- the event of a fill: the bytes at the front of the buffer, none after a fault
abbrev pub Filled : Result ℕ InFault → List ℕ → Disk → Event → Type 0
Filled (Ok n) buf d e = e ≡ In (take n buf) false
Filled (Err fault) buf d e = e ≡ In [] true

-- the event of a say: all bytes, or after a fault a front of them
abbrev pub Said : Result Unit OutFault → List ℕ → Disk → Event → Type 0
Said (Ok u) bytes d e = e ≡ Out bytes false
Said (Err fault) bytes d e = (n : ℕ) × (e ≡ Out (take n bytes) true)

-- the most bytes that a load takes
abbrev pub load_limit : ℕ
load_limit = 268435456

-- a file of a name within the limit, or none
abbrev pub FitsLoad : Option (List ℕ) → Type 0
FitsLoad None = Unit {0}
FitsLoad (Some bytes) = length bytes ≤ load_limit

-- a load that saw a file saw none past the limit
abbrev pub LoadFits : Event → Type 0
LoadFits (Load n (seen.Bytes bytes held)) = FitsLoad bytes
LoadFits e = Unit {0}

-- a file of a name stands, and its length is past the limit
abbrev pub IsTooLarge : Option (List ℕ) → ℕ → Type 0
IsTooLarge None n = ⊥
IsTooLarge (Some bytes) n = (length bytes ≡ n) × (load_limit < n)

-- the event of a load of a name: what stands there, a failure, or that memory ran out
abbrev pub Loaded : List ℕ → Result LoadAnswer LoadError → Disk → Event → Type 0
Loaded name (Ok a) d e = (e ≡ Load name (seen.Bytes a.bytes a.held)) × (a.bytes ≡ d.files name) × (a.held ≡ is_some (d.locks name))
Loaded name (Err (error.TooLarge n)) d e = (e ≡ Load name (seen.TooLarge n)) × IsTooLarge (d.files name) n
Loaded name (Err error.Failed) d e = e ≡ Load name seen.Failed
Loaded name (Err error.Memory) d e = e ≡ Load name seen.Memory

-- a load answers Failed only if the disk's count rose, TooLarge only past the limit, and a file only within it
abbrev pub LoadCause : ℕ → ℕ → Result LoadAnswer LoadError → Type 0
LoadCause before now (Ok a) = FitsLoad a.bytes
LoadCause before now (Err error.Failed) = Rose before now
LoadCause before now (Err (error.TooLarge n)) = load_limit < n
LoadCause before now (Err error.Memory) = Unit {0}

-- the event of a staging: the file stands whole
abbrev pub Staged : List ℕ → List ℕ → Result Unit DiskFault → Disk → Event → Type 0
Staged name bytes (Ok u) d e = e ≡ Stage name (Some bytes) false
Staged name bytes (Err fault) d e = IsCutShort d (Stage name (Some bytes) false) e

-- the event of a publication: true exactly if the file stood
abbrev pub Published : List ℕ → List ℕ → Result Bool DiskFault → Disk → Event → Type 0
Published from to (Ok done) d e = (e ≡ Publish from to done false) × (done ≡ is_some (d.files from))
Published from to (Err fault) d e = IsCutShort d (Publish from to true false) e

-- the event of an extension: the file had so many bytes, and these stand behind them
abbrev pub Extended : List ℕ → ℕ → List ℕ → Result Unit DiskFault → Disk → Event → Type 0
Extended name at bytes (Ok u) d e = (e ≡ Extend name at bytes false) × (reaches at (d.files name) ≡ true)
Extended name at bytes (Err fault) d e = IsCutShort d (Extend name at bytes false) e

-- the event of an erasure: no file stands
abbrev pub Erased : List ℕ → Result Unit DiskFault → Disk → Event → Type 0
Erased name (Ok u) d e = e ≡ Erase name true false
Erased name (Err fault) d e = IsCutShort d (Erase name true false) e

-- the event of a locking: true exactly if no lock stood
abbrev pub Locked : List ℕ → ℕ → Result Bool DiskFault → Disk → Event → Type 0
Locked name token (Ok got) d e = (e ≡ Lock name token got false) × (got ≡ is_none (d.locks name))
Locked name token (Err fault) d e = IsCutShort d (Lock name token true false) e

-- the event of an unlocking: done exactly if the lock's owner is the token
abbrev pub Unlocked : List ℕ → ℕ → Result Unit DiskFault → Disk → Event → Type 0
Unlocked name token (Ok u) d e = e ≡ Unlock name token (is_owner token (d.locks name)) false
Unlocked name token (Err fault) d e = IsCutShort d (Unlock name token true false) e

-- the event of a seizure: true exactly if no other had the right
abbrev pub Seized : List ℕ → Result Bool DiskFault → Disk → Event → Type 0
Seized name (Ok got) d e = (e ≡ Seize name got false) × (got ≡ is_open (d.rights name))
Seized name (Err fault) d e = IsCutShort d (Seize name true false) e

-- the event of a release
abbrev pub Released : List ℕ → Disk → Event → Type 0
Released name d e = e ≡ Release name

-- the most bytes of a child's output, and of an editor's text, that are kept
abbrev pub output_limit : ℕ
output_limit = 16777216

-- the event of a child that ran, that could not be run, or for which memory ran out
abbrev pub ChildRan : List ℕ → List (List ℕ) → List ℕ → Result ChildAnswer ChildError → Disk → Event → Type 0
ChildRan program args input (Ok a) d e = e ≡ Child program args input (Some a) false
ChildRan program args input (Err child_error.Failed) d e = e ≡ Child program args input None true
ChildRan program args input (Err child_error.Memory) d e = e ≡ Child program args input None false

-- a child answers Failed only if the count of children rose, and an output within the limit
abbrev pub ChildCause : ℕ → ℕ → Result ChildAnswer ChildError → Type 0
ChildCause before now (Ok a) = length a.output ≤ output_limit
ChildCause before now (Err child_error.Failed) = Rose before now
ChildCause before now (Err child_error.Memory) = Unit {0}

-- the event of an editor that ran, that could not be run, or for which memory ran out
abbrev pub Edited : List ℕ → List ℕ → List ℕ → List ℕ → Result EditAnswer ChildError → Disk → Event → Type 0
Edited name shell command text (Ok a) d e = e ≡ Edit name shell command text (Some a) false
Edited name shell command text (Err child_error.Failed) d e = e ≡ Edit name shell command text None true
Edited name shell command text (Err child_error.Memory) d e = e ≡ Edit name shell command text None false

-- an editor answers Failed only if the count of children rose, and a text within the limit
abbrev pub EditCause : ℕ → ℕ → Result EditAnswer ChildError → Type 0
EditCause before now (Ok a) = length a.text ≤ output_limit
EditCause before now (Err child_error.Failed) = Rose before now
EditCause before now (Err child_error.Memory) = Unit {0}

-- the event of a look at the time
abbrev pub TimeTold : ℤ → Disk → Event → Type 0
TimeTold seconds d e = e ≡ Now seconds
