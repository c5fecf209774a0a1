-- A disk, and what the events of a trace do to it.
use Rattle.std.specs.Prelude.{◌≡◌, ◌==◌, ℕ, Bool, true, false, nat_le, List, [], ◌∷◌, ◌++◌, take, length, if◌then◌else◌}
use Rattle.std.specs.declared.option.Option.{Option}
use Rattle.std.specs.declared.option.Option.TheVariants.{Some, None}
use Rattle.std.specs.Str.{bytes_eq}
use Rattle.host_port.specs.declared.event.Event.{Event}
use Rattle.host_port.specs.declared.event.Event.TheVariants as event
use Rattle.host_port.specs.declared.event.ForeignStep.{ForeignStep}
use Rattle.host_port.specs.declared.event.ForeignStep.TheVariants.{Write, Remove, Lock, Unlock, Seize, Release}
use Rattle.host_port.specs.declared.event.Holder.{Holder}
use Rattle.host_port.specs.declared.event.Holder.TheVariants.{Own, Other}

-- the files by name, the owners of locks by name, and who has the right of a name
pub record Disk : Type 0 where
  pub files : List ℕ → Option (List ℕ)
  pub locks : List ℕ → Option ℕ
  pub rights : List ℕ → Option Holder

-- a disk without files, locks and rights
abbrev pub empty_disk : Disk
empty_disk = record { files = λ q. None; locks = λ q. None; rights = λ q. None }

-- both disks show the same at each name
pub record SameDisk (left right : Disk) : Type 0 where
  pub files : (q : List ℕ) → left.files q ≡ right.files q
  pub locks : (q : List ℕ) → left.locks q ≡ right.locks q
  pub rights : (q : List ℕ) → left.rights q ≡ right.rights q

-- a map with another value at one name
abbrev pub with_at : {A : Type 0} → (List ℕ → Option A) → List ℕ → Option A → List ℕ → Option A
with_at m name value q = if bytes_eq q name then value else m q

-- a lock is put if none stands
abbrev pub locked : Option ℕ → ℕ → Option ℕ
locked None token = Some token
locked (Some owner) token = Some owner

-- a lock is taken away by its owner
abbrev pub unlocked : Option ℕ → ℕ → Option ℕ
unlocked None token = None
unlocked (Some owner) token = if owner == token then None else Some owner

-- another takes a right that nobody has
abbrev pub taken : Option Holder → Option Holder
taken None = Some Other
taken (Some holder) = Some holder

-- another gives up a right, which it has not if this run has it
abbrev pub without_other : Option Holder → Option Holder
without_other None = None
without_other (Some Own) = Some Own
without_other (Some Other) = None

-- this run gives up a right, which it has not if another has it
abbrev pub without_own : Option Holder → Option Holder
without_own None = None
without_own (Some Own) = None
without_own (Some Other) = Some Other

-- what another's step makes of a disk
abbrev pub after_step : Disk → ForeignStep → Disk
after_step d (Write name bytes) = record d { files = with_at d.files name (Some bytes) }
after_step d (Remove name) = record d { files = with_at d.files name None }
after_step d (Lock name token) = record d { locks = with_at d.locks name (locked (d.locks name) token) }
after_step d (Unlock name token) = record d { locks = with_at d.locks name (unlocked (d.locks name) token) }
after_step d (Seize name) = record d { rights = with_at d.rights name (taken (d.rights name)) }
after_step d (Release name) = record d { rights = with_at d.rights name (without_other (d.rights name)) }

-- a file stands that has so many bytes at least
abbrev pub reaches : ℕ → Option (List ℕ) → Bool
reaches at None = false
reaches at (Some bytes) = nat_le at (length bytes)

-- a file with another tail behind so many bytes; one that is absent or shorter stays as it is
abbrev pub extended : Option (List ℕ) → ℕ → List ℕ → Option (List ℕ)
extended None at tail = None
extended (Some bytes) at tail = Some (if nat_le at (length bytes) then take at bytes ++ tail else bytes)

-- what an event makes of a disk, by what it says was done
abbrev pub after : Disk → Event → Disk
after d (event.In bytes failed) = d
after d (event.Out bytes failed) = d
after d (event.Load name seen) = d
after d (event.Stage name bytes failed) = record d { files = with_at d.files name bytes }
after d (event.Publish from to true failed) = record d { files = with_at (with_at d.files from None) to (d.files from) }
after d (event.Publish from to false failed) = d
after d (event.Extend name at tail failed) = record d { files = with_at d.files name (extended (d.files name) at tail) }
after d (event.Erase name true failed) = record d { files = with_at d.files name None }
after d (event.Erase name false failed) = d
after d (event.Lock name token true failed) = record d { locks = with_at d.locks name (Some token) }
after d (event.Lock name token false failed) = d
after d (event.Unlock name token true failed) = record d { locks = with_at d.locks name None }
after d (event.Unlock name token false failed) = d
after d (event.Seize name true failed) = record d { rights = with_at d.rights name (Some Own) }
after d (event.Seize name false failed) = d
after d (event.Release name) = record d { rights = with_at d.rights name (without_own (d.rights name)) }
after d (event.Child program args input answer failed) = d
after d (event.Edit name shell command text answer failed) = d
after d (event.Now seconds) = d
after d (event.Foreign step) = after_step d step

-- the disk after a list of events
abbrev pub disk : Disk → List Event → Disk
disk d [] = d
disk d (e ∷ es) = disk (after d e) es
