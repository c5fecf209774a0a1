-- The names of an actor: its record, the staging of its record, and its right; and the staged name of a file.
use Rattle.std.specs.Prelude.{ℕ, Bool, ◌||◌, List, ◌++◌, codes}
use Rattle.std.specs.Str.{bytes_eq}
use Rattle.commit_record.specs.Format.{token_digits}

-- the most bytes that the name of an actor has, so that its files can have their names
abbrev pub actor_limit : ℕ
actor_limit = 4021

-- where the record of the actor's commit stands
unfoldable pub record_name : List ℕ → List ℕ
record_name actor = actor ++ codes ".commit"

-- where a record is made before it takes its place
unfoldable pub new_name : List ℕ → List ℕ
new_name actor = actor ++ codes ".commit.new"

-- the right that the actor takes first
unfoldable pub right_name : List ℕ → List ℕ
right_name actor = actor ++ codes ".right"

-- where a file is made before it takes its place, for the commit of this token
unfoldable pub staged_name : ℕ → List ℕ → List ℕ
staged_name token name = name ++ (codes ".mx" ++ token_digits token)

abbrev pub is_record_name : List ℕ → List ℕ → Bool
is_record_name actor name = bytes_eq name (record_name actor) || bytes_eq name (new_name actor)
