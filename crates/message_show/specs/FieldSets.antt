-- The names of fields that a shown message leaves out, and of those that it has alone.
use Rattle.std.specs.Prelude.{ℕ, Bool, not, List, length, ◌==◌, if◌then◌else◌}
use Rattle.name_lists.specs.Names.{has_name}

-- the names that were named to be left out and those that were named to be kept, both in order of first naming
pub record FieldNames : Type 0 where
  pub ignored : List (List ℕ)
  pub retained : List (List ℕ)

-- a field of this name is kept: if any name is retained, exactly if it is; else exactly if it isn't ignored
abbrev pub keeps : FieldNames → List ℕ → Bool
keeps sets name = if length sets.retained == 0 then not (has_name sets.ignored name) else has_name sets.retained name
