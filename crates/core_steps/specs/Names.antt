-- The names that files may have beside an actor's commits.
use Rattle.std.specs.Prelude.{ℕ, Bool, ◌&&◌, not, List}
use Rattle.std.specs.Str.{bytes_eq}
use Rattle.commit_record.specs.Names.{is_lawful}
use Rattle.commit_machine.specs.Names.{is_record_name, right_name}

-- a lawful name that is none of the actor's own
abbrev pub is_file_name : List ℕ → List ℕ → Bool
is_file_name actor name = is_lawful name && (not (is_record_name actor name) && not (bytes_eq name (right_name actor)))
