-- What recovery by all actors would make of a disk, as it is found name by name.
use Rattle.std.specs.Prelude.{◌≡◌, ◌⊎◌, ◌&&◌, ℕ, Bool, false, List, []}
use Rattle.std.specs.List.{list_any}
use Rattle.std.specs.declared.option.Option.{Option}
use Rattle.std.specs.declared.option.Option.TheVariants.{Some, None}
use Rattle.host_port.specs.Disk.{Disk}
use Rattle.commit_record.specs.declared.record.Record.{Record}
use Rattle.commit_machine.specs.Records.{has, names_of}
use Rattle.commit_machine.specs.Settled.{Files, Locks, Mem, owned_by}
use Rattle.core_steps.specs.Settling.{standing_in}

-- the names of a record that was found
abbrev pub names_found : Option Record → List (List ℕ)
names_found None = []
names_found (Some r) = names_of r

-- the settled file of each of these names, or more, was made to stand, and all else is as it was
pub record SettlesNames (settled : Files) (names : List (List ℕ)) (old now : Disk) : Type 0 where
  pub files : (q : List ℕ) → (now.files q ≡ settled q) ⊎ ((now.files q ≡ old.files q) × (Mem q names → ⊥))
  pub locks : (q : List ℕ) → now.locks q ≡ old.locks q

-- the record takes the lock with this token away from a name
abbrev pub frees : Option Record → List ℕ → ℕ → Bool
frees None name token = false
frees (Some r) name token = has (names_of r) name && owned_by r.token (Some token)

-- the record of one of these actors does
abbrev pub is_freed : Files → List (List ℕ) → List ℕ → ℕ → Bool
is_freed files actors name token = list_any (λ a. frees (standing_in files a) name token) actors

-- the settled lock of each of these names was made to stand, and all else is as it was
pub record SettlesLocks (settled : Locks) (names : List (List ℕ)) (old now : Disk) : Type 0 where
  pub files : (q : List ℕ) → now.files q ≡ old.files q
  pub locks : (q : List ℕ) → (now.locks q ≡ settled q) ⊎ ((now.locks q ≡ old.locks q) × (Mem q names → ⊥))
