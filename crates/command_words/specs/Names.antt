-- The names of an option's value.
use Rattle.std.specs.Prelude.{ℕ, Bool, ◌==◌, ◌||◌, List, [], ◌∷◌, ◌++◌, if◌then◌else◌}
use Rattle.std.specs.List.{onto_first}
use Rattle.mail_text.specs.Ascii.{is_blank}

-- the byte stands between names: a blank or a comma (44)
abbrev pub parts_names : ℕ → Bool
parts_names b = is_blank b || b == 44

-- the pieces between such bytes
unfoldable pub pieces_of : List ℕ → List (List ℕ)
pieces_of [] = [] ∷ []
pieces_of (b ∷ bs) = if parts_names b then [] ∷ pieces_of bs else onto_first b (pieces_of bs)

-- a piece that has bytes, and nothing else
abbrev pub kept : List ℕ → List (List ℕ)
kept [] = []
kept (b ∷ bs) = (b ∷ bs) ∷ []

-- the pieces that have bytes
unfoldable pub some_of : List (List ℕ) → List (List ℕ)
some_of [] = []
some_of (piece ∷ pieces) = kept piece ++ some_of pieces

-- the names of a value: its pieces that have bytes
abbrev pub names_in : List ℕ → List (List ℕ)
names_in value = some_of (pieces_of value)
