-- Whom names stand for: those to whom aliases lead.
use Rattle.std.specs.Prelude.{◌≡◌, ℕ, Bool, true, false, List, Some}
use Rattle.std.specs.List.{Contains}
use Rattle.alias_groups.specs.declared.own.Own.{Own}
use Rattle.alias_groups.specs.Expansion.{dropped_names, expansion}
use Rattle.alias_groups.specs.Groups.{Group, is_alias, members_of}
use Rattle.name_lists.specs.Names.{has_name}

-- a name is reached if it was given, or if it is a member of an alias that is reached
pub data Reached (groups : List Group) (names : List (List ℕ)) : List ℕ → Type 0 where
  given : {name : List ℕ} → Contains names name → Reached groups names name
  member : {alias name : List ℕ} {members : List (List ℕ)}
      → Reached groups names alias → members_of groups alias ≡ Some members → Contains members name
      → Reached groups names name

-- each name that is added is reached
abbrev pub AddedAreReached : Type 0
AddedAreReached = (groups : List Group) (own : Own) (metoo : Bool) (names : List (List ℕ)) (name : List ℕ)
    → Contains (expansion groups own metoo names) name → Reached groups names name

-- each given name that is no alias is added, also an own one
abbrev pub GivenAreAdded : Type 0
GivenAreAdded = (groups : List Group) (own : Own) (metoo : Bool) (names : List (List ℕ)) (name : List ℕ)
    → Contains names name → is_alias groups name ≡ false → has_name (expansion groups own metoo names) name ≡ true

-- each name that is reached is added, but for aliases and the own names that are to be dropped
abbrev pub ReachedAreAdded : Type 0
ReachedAreAdded = (groups : List Group) (own : Own) (metoo : Bool) (names : List (List ℕ)) (name : List ℕ)
    → Reached groups names name → is_alias groups name ≡ false → has_name (dropped_names own metoo) name ≡ false
    → has_name (expansion groups own metoo names) name ≡ true
