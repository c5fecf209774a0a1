-- Names that a run has made before its commit is decided, of which a loss of power may leave any.
use Rattle.std.specs.Prelude.{◌≡◌, ◌⊎◌, ℕ, Bool, true, false, not, ◌||◌, List, Option, Some, None}
use Rattle.std.specs.Str.{bytes_eq}
use Rattle.host_port.specs.Disk.{Disk}
use Rattle.commit_record.specs.declared.record.Record.{Record}
use Rattle.commit_machine.specs.Names.{record_name, new_name}
use Rattle.commit_machine.specs.Records.{record_in, is_go, names_of, has}
use Rattle.commit_machine.specs.Settled.{IsSoundAt, is_staged_of}
use Rattle.commit_machine.specs.Due.{settled_files, settled_locks}

-- no record says that the commit was decided
abbrev pub is_undecided : Option Record → Bool
is_undecided None = true
is_undecided (Some r) = not (is_go r)

-- a name that stands for the commit alone: where a record is made, or a file of the record's
abbrev pub is_pending : List ℕ → Option Record → List ℕ → Bool
is_pending actor None name = bytes_eq name (new_name actor)
is_pending actor (Some r) name = bytes_eq name (new_name actor) || is_staged_of r name

-- a file that the record names has no lock or the record's
abbrev pub IsPendingLock : Option Record → List ℕ → Option ℕ → Type 0
IsPendingLock None name lock = ⊥
IsPendingLock (Some r) name lock = (has (names_of r) name ≡ true) × ((lock ≡ None) ⊎ (lock ≡ Some r.token))

-- Two disks on which the same record of the actor's stands, or none, and which differ in such names and locks alone.
pub record DifferInPending (actor : List ℕ) (r : Option Record) (one other : Disk) : Type 0 where
  pub one_record : record_in (one.files (record_name actor)) ≡ r
  pub other_record : record_in (other.files (record_name actor)) ≡ r
  pub files : (n : List ℕ) → is_pending actor r n ≡ false → one.files n ≡ other.files n
  pub locks : (n : List ℕ) → (one.locks n ≡ other.locks n) ⊎ (IsPendingLock r n (one.locks n) × IsPendingLock r n (other.locks n))

-- recovery leaves the same files and locks of both, and the other one is sound
pub record SettleAlike (actor : List ℕ) (one other : Disk) : Type 0 where
  pub files : (n : List ℕ) → settled_files actor other n ≡ settled_files actor one n
  pub locks : (n : List ℕ) → settled_locks actor other n ≡ settled_locks actor one n
  pub sound : IsSoundAt actor other.files other.locks

abbrev pub UnsyncedNamesAreHarmless : Type 0
UnsyncedNamesAreHarmless = (actor : List ℕ) (r : Option Record) (one other : Disk) → is_undecided r ≡ true → DifferInPending actor r one other → SettleAlike actor one other
