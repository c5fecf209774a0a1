-- What others may do while a run commits or recovers.
use Rattle.std.specs.Prelude.{◌≡◌, ◌≢◌, ◌⊎◌, ℕ, true, List, [], ◌∷◌}
use Rattle.std.specs.declared.option.Option.{Option}
use Rattle.std.specs.declared.option.Option.TheVariants.{Some, None}
use Rattle.commit_record.specs.declared.record.Record.{Record}
use Rattle.host_port.specs.declared.event.Event.{Event}
use Rattle.host_port.specs.declared.event.Event.TheVariants.{Foreign}
use Rattle.host_port.specs.declared.event.ForeignStep.{ForeignStep}
use Rattle.host_port.specs.declared.event.ForeignStep.TheVariants.{Write, Remove, Lock, Unlock, Seize, Release}
use Rattle.host_port.specs.declared.event.Holder.TheVariants.{Own}
use Rattle.host_port.specs.Disk.{Disk, after, after_step}
use Rattle.commit_machine.specs.Names.{record_name, right_name, staged_name, is_record_name}
use Rattle.commit_machine.specs.Records.{record_in}
use Rattle.commit_machine.specs.Settled.{IsSoundAt}

-- a disk is sound for an actor
abbrev pub IsSound : List ℕ → Disk → Type 0
IsSound actor d = IsSoundAt actor d.files d.locks

-- the record that stands
abbrev pub standing : List ℕ → Disk → Option Record
standing actor d = record_in (d.files (record_name actor))

-- the run has the actor's right
abbrev pub HasRight : List ℕ → Disk → Type 0
HasRight actor d = d.rights (right_name actor) ≡ Some Own

-- the run's token, or that of the record that stands
abbrev pub IsGuarded : List ℕ → ℕ → Disk → ℕ → Type 0
IsGuarded actor token d u = (u ≡ token) ⊎ ((r : Record) × (standing actor d ≡ Some r) × (r.token ≡ u))

-- A file may be written or removed if its lock has no guarded token and it is no staged name of such a token. A record name
-- may be touched only while the run hasn't the right and no record stands, and no record of the run's token may come.
pub record IsLawfulWrite (actor : List ℕ) (token : ℕ) (d : Disk) (n : List ℕ) (c : Option (List ℕ)) : Type 0 where
  pub unlocked : (u : ℕ) → IsGuarded actor token d u → d.locks n ≢ Some u
  pub unstaged : (u : ℕ) (m : List ℕ) → IsGuarded actor token d u → n ≢ staged_name u m
  pub no_right : is_record_name actor n ≡ true → HasRight actor d → ⊥
  pub no_record : is_record_name actor n ≡ true → standing actor d ≡ None
  pub fresh : (r : Record) → is_record_name actor n ≡ true → record_in c ≡ Some r → r.token ≢ token

-- locks of guarded tokens are neither put nor taken away
abbrev pub IsLawful : List ℕ → ℕ → Disk → ForeignStep → Type 0
IsLawful actor token d (Write n bytes) = IsLawfulWrite actor token d n (Some bytes)
IsLawful actor token d (Remove n) = IsLawfulWrite actor token d n None
IsLawful actor token d (Lock n u) = IsGuarded actor token d u → ⊥
IsLawful actor token d (Unlock n u) = IsGuarded actor token d u → ⊥
IsLawful actor token d (Seize n) = Unit {0}
IsLawful actor token d (Release n) = Unit {0}

-- each step of others is lawful where it stands, and the disk is sound after it
abbrev pub OthersAreLawful : List ℕ → ℕ → Disk → List Event → Type 0
OthersAreLawful actor token d [] = Unit {0}
OthersAreLawful actor token d (Foreign f ∷ es) = IsLawful actor token d f × IsSound actor (after_step d f) × OthersAreLawful actor token (after_step d f) es
OthersAreLawful actor token d (e ∷ es) = OthersAreLawful actor token (after d e) es

-- nothing on the disk carries the token
pub record IsFresh (actor : List ℕ) (token : ℕ) (d : Disk) : Type 0 where
  pub staged : (m : List ℕ) → d.files (staged_name token m) ≡ None
  pub locks : (m : List ℕ) → d.locks m ≢ Some token
  pub record_other : (r : Record) → standing actor d ≡ Some r → r.token ≢ token
