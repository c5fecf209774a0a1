-- A disk as a list of files and a list of locks; of several pairs of one name the first counts.
use Rattle.std.specs.Prelude.{ℕ, Bool, List, [], ◌∷◌, map, filter, is_some, if◌then◌else◌}
use Rattle.std.specs.declared.option.Option.{Option}
use Rattle.std.specs.declared.option.Option.TheVariants.{Some, None}
use Rattle.std.specs.List.{list_any, IsDistinct}
use Rattle.std.specs.Option.{option_to_list}
use Rattle.std.specs.Str.{bytes_eq}
use Rattle.host_port.specs.Disk.{Disk}

-- what a list of pairs has for a name
abbrev pub lookup : {A : Type 0} → List (List ℕ × A) → List ℕ → Option A
lookup [] q = None
lookup (p ∷ ps) q = if bytes_eq q p.0 then Some p.1 else lookup ps q

-- the disk that the lists show, if nobody has a right
abbrev pub disk_of : List (List ℕ × List ℕ) → List (List ℕ × ℕ) → Disk
disk_of files locks = record { files = lookup files; locks = lookup locks; rights = λ q. None }

-- what a list of pairs has for a name, where a pair may say that it has nothing
abbrev pub flat : {A : Type 0} → Option (Option A) → Option A
flat None = None
flat (Some found) = found

abbrev pub named : {A : Type 0} → List (List ℕ × Option A) → List ℕ → Option A
named ps q = flat (lookup ps q)

-- the names of a list of pairs
abbrev pub names_of : {A : Type 0} → List (List ℕ × A) → List (List ℕ)
names_of ps = map (λ p. p.0) ps

-- each name stands once in a list of pairs
abbrev pub NamesOnce : {A : Type 0} → List (List ℕ × A) → Type 0
NamesOnce ps = IsDistinct bytes_eq (names_of ps)

-- a list of pairs has a value for the name
abbrev pub has_value : {A : Type 0} → List (List ℕ × Option A) → List ℕ → Bool
has_value ps q = is_some (named ps q)

-- the name, if it has a value
abbrev pub with_value : {A : Type 0} → List (List ℕ × Option A) → Option (List ℕ) → List (List ℕ)
with_value ps name = filter (has_value ps) (option_to_list name)

-- the first of two that is there
abbrev pub or_else : {A : Type 0} → Option A → Option A → Option A
or_else None second = second
or_else (Some a) second = Some a

-- what is found for a name, if it is the one that is looked at
abbrev pub at_name : {A : Type 0} → Option (List ℕ) → List ℕ → Option A → Option A
at_name None q found = None
at_name (Some name) q found = if bytes_eq q name then found else None

-- what is found for a name, if it is among these
abbrev pub among : {A : Type 0} → List (List ℕ) → List ℕ → Option A → Option A
among names q found = if list_any (bytes_eq q) names then found else None
