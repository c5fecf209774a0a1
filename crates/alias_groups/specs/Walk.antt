-- The walk over names, through the aliases among them.
use Rattle.std.specs.Prelude.{ℕ, zero, suc, Bool, true, false, ◌&&◌, List, [], ◌∷◌, ◌++◌, Option, Some, None, if◌then◌else◌}
use Rattle.std.specs.List.{list_any}
use Rattle.std.specs.Str.{bytes_eq}
use Rattle.alias_groups.specs.Groups.{Group, members_of}
use Rattle.name_lists.specs.Names.{has_name, with_name}

-- how far a walk has come: the aliases whose walk is over, and the names that were added
pub record Walked : Type 0 where
  pub over : List (List ℕ)
  pub added : List (List ℕ)

-- the name is among these, byte for byte
abbrev pub is_among : List (List ℕ) → List ℕ → Bool
is_among names name = list_any (bytes_eq name) names

-- some alias is open
abbrev pub is_within : List (List ℕ) → Bool
is_within [] = false
is_within (name ∷ names) = true

-- a name is added, if it wasn't; inside of an alias one that is to be dropped isn't
abbrev pub named : List (List ℕ) → List (List ℕ) → List ℕ → Walked → Walked
named dropped opened name w =
    if is_within opened && has_name dropped name then w else record w { added = with_name w.added name }

-- the names with one more last, if it isn't among them yet
abbrev pub with_alias : List (List ℕ) → List ℕ → List (List ℕ)
with_alias names name = if is_among names name then names else names ++ name ∷ []

-- the walk of an alias is over
abbrev pub closed : List ℕ → Walked → Walked
closed name w = record w { over = with_alias w.over name }

-- A name is met while the walks of some aliases are open. One that is no alias is added. An alias is added as a name inside of
-- its own walk, adds nothing once its walk is over, and else is walked through.
abbrev pub met : (List (List ℕ) → List (List ℕ) → Walked → Walked) → List (List ℕ) → List (List ℕ) → List ℕ → Option (List (List ℕ)) → Walked → Walked
met through dropped opened name None w = named dropped opened name w
met through dropped opened name (Some members) w =
    if is_among opened name then named dropped opened name w
    else if is_among w.over name then w
    else closed name (through (opened ++ name ∷ []) members w)

-- names are met in order
abbrev pub met_all : (List (List ℕ) → List (List ℕ) → Walked → Walked) → List Group → List (List ℕ) → List (List ℕ) → List (List ℕ) → Walked → Walked
met_all through groups dropped opened [] w = w
met_all through groups dropped opened (name ∷ names) w =
    met_all through groups dropped opened names (met through dropped opened name (members_of groups name) w)

-- the walk over names while the walks of some aliases are open, of which fewer than `depth` further ones can be opened
unfoldable pub walk : ℕ → List Group → List (List ℕ) → List (List ℕ) → List (List ℕ) → Walked → Walked
walk zero groups dropped opened names w = w
walk (suc depth) groups dropped opened names w = met_all (walk depth groups dropped) groups dropped opened names w

-- nothing was met
abbrev pub nothing : Walked
nothing = record { over = []; added = [] }
