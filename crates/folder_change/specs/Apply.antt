-- Changes of files, in order. The files are a function from names.
use Rattle.std.specs.Prelude.{ℕ, List, [], ◌∷◌, Option, Result, Ok, Err, if◌then◌else◌}
use Rattle.std.specs.Str.{bytes_eq}
use Rattle.folder_change.specs.declared.change.Change.{Change}
use Rattle.folder_change.specs.Changes.{name_of}
use Rattle.folder_change.specs.Outcomes.{outcome_of}

-- each name's bytes, None if there is no such file
abbrev pub Files : Type 0
Files = List ℕ → Option (List ℕ)

-- the files, with this one as given
abbrev pub put : Files → List ℕ → Option (List ℕ) → Files
put files name file = λ other. if bytes_eq other name then file else files other

-- the outcome of a change on the file that it names
abbrev pub outcome_on : Files → Change → List (List ℕ) → Result (Option (List ℕ)) ℕ
outcome_on files change base = outcome_of (files (name_of change)) change base

-- the files with an outcome put at this name; a file that has changed stays as it is
abbrev pub put_outcome : Files → List ℕ → Result (Option (List ℕ)) ℕ → Files
put_outcome files name (Ok file) = put files name file
put_outcome files name (Err at) = files

-- the files after one change
abbrev pub after : Files → Change → List (List ℕ) → Files
after files change base = put_outcome files (name_of change) (outcome_on files change base)

-- the files after all changes, each on what those before it left
unfoldable pub apply : List Change → List (List ℕ) → Files → Files
apply [] base files = files
apply (change ∷ later) base files = apply later base (after files change base)
