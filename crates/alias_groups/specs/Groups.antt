-- Aliases with their members, in order of first definition.
use Rattle.std.specs.Prelude.{◌≤◌, ◌+◌, nat_lt, ℕ, Bool, List, [], ◌∷◌, ◌++◌, Option, Some, None, is_some, length, sum_by, if◌then◌else◌}
use Rattle.std.specs.List.{IsDistinct}
use Rattle.std.specs.Map.{lookup, remove_entry, keys_of}
use Rattle.std.specs.Str.{bytes_eq}
use Rattle.alias_groups.specs.declared.error.AliasError.{AliasError}
use Rattle.alias_groups.specs.declared.error.AliasError.TheVariants.{TooMany}

-- the name of an alias, and its members
abbrev pub Group : Type 0
Group = List ℕ × List (List ℕ)

-- the members of an alias, if the name is one
abbrev pub members_of : List Group → List ℕ → Option (List (List ℕ))
members_of groups name = lookup (bytes_eq name) groups

-- the name is that of an alias
abbrev pub is_alias : List Group → List ℕ → Bool
is_alias groups name = is_some (members_of groups name)

-- how many members all aliases have together
abbrev pub member_count : List Group → ℕ
member_count groups = sum_by (λ g. length g.1) groups

-- once an alias has more members: one that was defined keeps its place, a new one goes last
abbrev pub with_members : List Group → List ℕ → List (List ℕ) → List Group
with_members [] name to = (name, to) ∷ []
with_members (g ∷ gs) name to = if bytes_eq name g.0 then (g.0, g.1 ++ to) ∷ gs else g ∷ with_members gs name to

-- once an alias is removed
abbrev pub without : List Group → List ℕ → List Group
without groups name = remove_entry (bytes_eq name) groups

-- why an alias takes no such members: all aliases together would have more than 100,000
abbrev pub define_refusal : List Group → List (List ℕ) → Option AliasError
define_refusal groups to = if nat_lt 100000 (member_count groups + length to) then Some TooMany else None

-- what holds of aliases: they have at most 100,000 members together, and distinct names
pub record AreGroups (groups : List Group) : Type 0 where
  pub few : member_count groups ≤ 100000
  pub distinct : IsDistinct bytes_eq (keys_of groups)
