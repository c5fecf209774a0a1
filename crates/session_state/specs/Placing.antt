-- What a name stands for: the file that the host is told.
use Rattle.std.specs.Prelude.{◌==◌, ◌&&◌, ◌++◌, nat_le, ℕ, Bool, false, List, [], ◌∷◌, length, map, codes, if◌then◌else◌}
use Rattle.std.specs.Str.{bytes_eq}
use Rattle.commit_machine.specs.Names.{actor_limit}
use Rattle.commit_record.specs.Format.{token_digits}
use Rattle.folder_change.specs.declared.change.Change.{Change}
use Rattle.folder_change.specs.declared.change.Change.TheVariants.{Rewrite, Add, Front, AddRaw}
use Rattle.mailx_vars.specs.Names.{is_short_name}

-- the name begins with `/`
abbrev pub is_rooted : List ℕ → Bool
is_rooted [] = false
is_rooted (b ∷ bs) = b == 47

-- A name as it is said stands for this file. `here` stands in front of a name that doesn't begin with `/`, unless that is empty.
abbrev pub placed : List ℕ → List ℕ → List ℕ
placed here [] = []
placed here (b ∷ bs) = if is_rooted (b ∷ bs) then b ∷ bs else here ++ b ∷ bs

-- What stands there in a run whose working folder has this name: the folder and a `/`; nothing, if the name is no folder's.
abbrev pub front_of : List ℕ → List ℕ
front_of folder =
    if is_short_name folder && is_rooted folder then (if bytes_eq folder (codes "/") then folder else folder ++ codes "/") else []

-- The name of the actor of a home folder: the file that `.mailx` in it stands for; that name itself, if the file's is too long for an actor.
abbrev pub actor_for : List ℕ → List ℕ → List ℕ
actor_for here home =
    let own = home ++ codes "/.mailx" in if nat_le (length (placed here own)) actor_limit then placed here own else own

-- the file that an actor edits a text in: its name, `.edit.` and the token in 16 lower case hexadecimal digits
abbrev pub edit_file : List ℕ → ℕ → List ℕ
edit_file actor token = actor ++ (codes ".edit." ++ token_digits token)

-- a change of the file that its name stands for
abbrev pub placed_change : List ℕ → Change → Change
placed_change here (Rewrite name list keep) = Rewrite (placed here name) list keep
placed_change here (Add name texts) = Add (placed here name) texts
placed_change here (Front name texts) = Front (placed here name) texts
placed_change here (AddRaw name bytes) = AddRaw (placed here name) bytes

abbrev pub placed_changes : List ℕ → List Change → List Change
placed_changes here changes = map (placed_change here) changes

-- how a file is said: as the first of these names that stands for it; as itself if none does
abbrev pub typed_name : List ℕ → List (List ℕ) → List ℕ → List ℕ
typed_name here [] file = file
typed_name here (name ∷ names) file = if bytes_eq (placed here name) file then name else typed_name here names file
