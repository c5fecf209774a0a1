-- Aliases as the code keeps them.
use Rattle.std.specs.Prelude.{ℕ, List, map, Vec}
use Rattle.std.specs.declared.alloc.Global.{Global}
use Rattle.alias_groups.specs.Groups.{Group}

-- a name with its members, as vectors
abbrev pub Entry : Type 0
Entry = Vec ℕ Global × Vec (List ℕ) Global

-- the aliases of entries
abbrev pub groups_in : List Entry → List Group
groups_in entries = map (λ e. (e.0.items, e.1.items)) entries
