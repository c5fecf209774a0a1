-- The changes that keep a message for its sender.
use Rattle.std.specs.Prelude.{ℕ, Bool, List, [], ◌∷◌, Option, Some, None, option_map, codes, if◌then◌else◌}
use Rattle.folder_change.specs.declared.change.Change.{Change}
use Rattle.folder_change.specs.declared.change.Change.TheVariants.{Add}
use Rattle.mailx_vars.specs.Settings.{Settings, is_set, value_of}

-- the change that puts one text at the end of a file
abbrev pub added_to : List ℕ → List ℕ → Change
added_to text name = Add name (text ∷ [])

-- the file that a message is recorded in: the one that is named, else the value of `record`, if it is set
abbrev pub record_file : List ℕ → Bool → Settings → Option (List ℕ)
record_file first named vars = if named then Some first else value_of vars (codes "record")

-- the change that records a message, if it is recorded
abbrev pub record_change : List ℕ → List ℕ → Bool → Settings → Option Change
record_change text first named vars = option_map (added_to text) (record_file first named vars)

-- the change that puts a message into the dead letter, if `save` is set
abbrev pub dead_change : List ℕ → List ℕ → Settings → Option Change
dead_change text dead vars = if is_set vars (codes "save") then Some (added_to text dead) else None
