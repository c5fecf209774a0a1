-- The parts of a change.
use Rattle.std.specs.Prelude.{ℕ, Bool, true, false, List}
use Rattle.folder_change.specs.declared.change.Change.{Change}
use Rattle.folder_change.specs.declared.change.Change.TheVariants.{Rewrite, Add, Front, AddRaw}

-- the name of its file
abbrev pub name_of : Change → List ℕ
name_of (Rewrite name list keep) = name
name_of (Add name texts) = name
name_of (Front name texts) = name
name_of (AddRaw name bytes) = name

-- it is made for a folder
abbrev pub is_rewrite : Change → Bool
is_rewrite (Rewrite name list keep) = true
is_rewrite (Add name texts) = false
is_rewrite (Front name texts) = false
is_rewrite (AddRaw name bytes) = false
