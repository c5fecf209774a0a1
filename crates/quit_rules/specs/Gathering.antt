-- What is put at the end of files, and what was gathered of that.
use Rattle.std.specs.Prelude.{ℕ, Bool, not, ◌&&◌, List, [], ◌∷◌, ◌++◌, length, map, nat_lt, if◌then◌else◌}
use Rattle.std.specs.List.{fold, list_any}
use Rattle.std.specs.Str.{bytes_eq}
use Rattle.folder_change.specs.declared.change.Change.{Change}
use Rattle.folder_change.specs.declared.change.Change.TheVariants.{Add, AddRaw}
use Rattle.quit_rules.specs.declared.gathered.Payload.{Payload}
use Rattle.quit_rules.specs.declared.gathered.Payload.TheVariants.{Texts, Bytes}
use Rattle.quit_rules.specs.declared.gathered.BatchItem.{BatchItem}

-- this is put at the end of the file of this name
abbrev pub put : List ℕ → Payload → Change
put name (Texts texts) = Add name texts
put name (Bytes bytes) = AddRaw name bytes

-- the change of its file
abbrev pub change_of : BatchItem → Change
change_of g = put g.name g.what

-- the changes of what was gathered, in order
abbrev pub gathered_changes : List BatchItem → List Change
gathered_changes gathered = map change_of gathered

-- the name is among these
abbrev pub has_name : List (List ℕ) → List ℕ → Bool
has_name names name = list_any (λ other. bytes_eq other name) names

-- the names with one more last, if it isn't among them
abbrev pub with_name : List (List ℕ) → List ℕ → List (List ℕ)
with_name names name = if has_name names name then names else names ++ name ∷ []

-- the names of the files, each once, in the order in which they were first named
abbrev pub names_of : List BatchItem → List (List ℕ)
names_of gathered = fold with_name [] (map (λ g. g.name) gathered)

-- the most files that changes are gathered for: with mbox and the folder they are as many as one commit takes
abbrev pub file_limit : ℕ
file_limit = 254

-- what is to be put into the file of this name can't be gathered: as many files as may be are named, and it isn't among them
abbrev pub lacks_place : List BatchItem → List ℕ → Bool
lacks_place gathered name = not (has_name (names_of gathered) name) && not (nat_lt (length (names_of gathered)) file_limit)
