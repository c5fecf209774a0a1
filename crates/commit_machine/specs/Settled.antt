-- What recovery makes of a disk: the files and the locks once the record that stands is done with.
use Rattle.std.specs.Prelude.{◌≡◌, ◌⊎◌, ℕ, Bool, true, false, ◌&&◌, ◌||◌, ◌==◌, List, [], ◌∷◌, ◌++◌, take, Option, Some, None, if◌then◌else◌, is_some}
use Rattle.std.specs.List.{list_any}
use Rattle.std.specs.Str.{bytes_eq}
use Rattle.folder_change.specs.Outcomes.{bytes_of}
use Rattle.host_port.specs.Disk.{reaches}
use Rattle.commit_record.specs.declared.record.Record.{Record}
use Rattle.commit_record.specs.declared.way.Way.{Way}
use Rattle.commit_record.specs.declared.way.Way.TheVariants.{Replace, Remove, Extend}
use Rattle.commit_machine.specs.Names.{record_name, staged_name, is_record_name}
use Rattle.commit_machine.specs.Records.{record_in, is_go, names_of, way_at, has}

abbrev pub Files : Type 0
Files = List ℕ → Option (List ℕ)

abbrev pub Locks : Type 0
Locks = List ℕ → Option ℕ

-- a staged name of the record's
abbrev pub is_staged_of : Record → List ℕ → Bool
is_staged_of r name = list_any (λ n. bytes_eq name (staged_name r.token n)) (names_of r)

-- the names that are left out: those of records, and the staged names of the record that stands
abbrev pub hides : List ℕ → Option Record → List ℕ → Bool
hides actor None name = is_record_name actor name
hides actor (Some r) name = is_record_name actor name || is_staged_of r name

-- A file with its staged file put in place, if that one stands. For a removal that takes the file away; for an extension its bytes
-- come behind the first ones.
abbrev pub put_in : Way → Option (List ℕ) → Option (List ℕ) → Option (List ℕ)
put_in way file None = file
put_in Replace file (Some bytes) = Some bytes
put_in Remove file (Some bytes) = None
put_in (Extend at) file (Some bytes) = Some (take at (bytes_of file) ++ bytes)

-- if the commit was decided, each staged file is put in place
abbrev pub placed : Option Record → Files → List ℕ → Option (List ℕ)
placed None files name = files name
placed (Some r) files name = if is_go r && has (names_of r) name then put_in (way_at r name) (files name) (files (staged_name r.token name)) else files name

-- the files, once recovery by this actor is done
abbrev pub settled : List ℕ → Files → Files
settled actor files name =
    if hides actor (record_in (files (record_name actor))) name then None
    else placed (record_in (files (record_name actor))) files name

-- whether the lock is this token's
abbrev pub owned_by : ℕ → Option ℕ → Bool
owned_by token None = false
owned_by token (Some owner) = token == owner

-- the locks of the record's token on its names are taken away
abbrev pub unlocked : Option Record → List ℕ → Option ℕ → Option ℕ
unlocked None name lock = lock
unlocked (Some r) name lock = if has (names_of r) name && owned_by r.token lock then None else lock

-- the locks, once recovery by this actor is done
abbrev pub settled_lock : List ℕ → Files → Locks → Locks
settled_lock actor files locks name = unlocked (record_in (files (record_name actor))) name (locks name)

-- the name is one of these
abbrev pub Mem : {A : Type 0} → A → List A → Type 0
Mem x [] = ⊥
Mem x (y ∷ ys) = (x ≡ y) ⊎ Mem x ys

-- If the record says that the commit was decided, none of its names is a record name of the actor, and each staged file that
-- stands has its lock and, if the file is extended, a file with as many bytes at least as stay.
pub record IsSoundAt (actor : List ℕ) (files : Files) (locks : Locks) : Type 0 where
  pub plain : (r : Record) (n : List ℕ) → record_in (files (record_name actor)) ≡ Some r → is_go r ≡ true → Mem n (names_of r) → is_record_name actor n ≡ false
  pub locked : (r : Record) (n : List ℕ) → record_in (files (record_name actor)) ≡ Some r → is_go r ≡ true → Mem n (names_of r)
      → is_some (files (staged_name r.token n)) ≡ true → locks n ≡ Some r.token
  pub long : (r : Record) (n : List ℕ) (at : ℕ) → record_in (files (record_name actor)) ≡ Some r → is_go r ≡ true → Mem n (names_of r)
      → way_at r n ≡ Extend at → is_some (files (staged_name r.token n)) ≡ true → reaches at (files n) ≡ true
