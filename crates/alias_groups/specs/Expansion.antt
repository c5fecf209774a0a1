-- What names stand for.
use Rattle.std.specs.Prelude.{ℕ, suc, Bool, List, [], ◌∷◌, length, if◌then◌else◌}
use Rattle.alias_groups.specs.declared.own.Own.{Own}
use Rattle.alias_groups.specs.Groups.{Group}
use Rattle.name_lists.specs.Names.{with_names}
use Rattle.alias_groups.specs.Walk.{nothing, walk}

-- the names that are left out if an alias leads to them: the own names, each once, and none with `metoo`
abbrev pub dropped_names : Own → Bool → List (List ℕ)
dropped_names own metoo = if metoo then [] else with_names [] (own.user ∷ own.alternates)

-- the names that a walk over names adds, in order; there are never more walks open than there are aliases
abbrev pub expansion : List Group → Own → Bool → List (List ℕ) → List (List ℕ)
expansion groups own metoo names = (walk (suc (length groups)) groups (dropped_names own metoo) [] names nothing).added
