-- What a call adds to a trace.
use Rattle.std.specs.Prelude.{◌≡◌, ◌==◌, ℕ, List, [], ◌∷◌, ◌++◌, map, if◌then◌else◌, ◌+◌, ◌-◌, ◌^◌, min}
use Rattle.std.specs.declared.option.Option.{Option}
use Rattle.std.specs.declared.option.Option.TheVariants.{Some, None}
use Rattle.host_port.specs.declared.event.ForeignStep.{ForeignStep}
use Rattle.host_port.specs.declared.event.Event.{Event}
use Rattle.host_port.specs.declared.event.Event.TheVariants.{Foreign}
use Rattle.host_port.specs.declared.event.Part.{Part}
use Rattle.host_port.specs.Disk.{Disk, disk}
pub use Rattle.memory_disk.specs.Lists.{lookup, disk_of, NamesOnce}

-- a trace with the steps of others and one event more
abbrev pub AddsOne : List Event → List Event → List ForeignStep → Event → Type 0
AddsOne old new steps e = new ≡ old ++ (map Foreign steps ++ e ∷ [])

-- the steps that a plan has before the call of this number
abbrev pub steps_before : List (ℕ × ForeignStep) → ℕ → List ForeignStep
steps_before [] call = []
steps_before (p ∷ ps) call = if p.0 == call then p.1 ∷ steps_before ps call else steps_before ps call

-- what a plan says that the call of this number leaves when it fails, or None if it doesn't fail
abbrev pub part_at : List (ℕ × Part) → ℕ → Option Part
part_at [] call = None
part_at (p ∷ ps) call = if p.0 == call then Some p.1 else part_at ps call

-- the number of the next call
abbrev pub next_call : ℕ → ℕ
next_call calls = min (calls + 1) (2 ^ 64 - 1)

-- a trace with the steps of others and one event more, of which this holds on the disk at its place
pub record AddsCall (start : Disk) (old new : List Event) (steps : List ForeignStep) (Happened : Disk → Event → Type 0) : Type 0 where
  pub own : Event
  pub is : new ≡ old ++ (map Foreign steps ++ own ∷ [])
  pub happened : Happened (disk start (old ++ map Foreign steps)) own
