-- Message identifiers in a field's value (RFC 5322, section 3.6.4).
use Rattle.std.specs.Prelude.{ℕ, Bool, not, ◌||◌, ◌==◌, List, [], ◌∷◌, ◌++◌, take, slice_index, Option, Some, None, if◌then◌else◌}
use Rattle.std.specs.List.{prefix_len}
use Rattle.mail_text.specs.Ascii.{is_blank}

-- a byte that may stand between an id's angle brackets: no blank and no bracket
abbrev pub is_inside : ℕ → Bool
is_inside b = not (is_blank b || b == 60 || b == 62)

-- how many such bytes stand in front
abbrev pub inside_length : List ℕ → ℕ
inside_length bs = prefix_len is_inside bs

-- the id that a `<` before these bytes begins, brackets and all, if a `>` ends it
abbrev pub id_behind : List ℕ → Option (List ℕ)
id_behind bs = if slice_index bs (inside_length bs) == 62 then Some (60 ∷ take (inside_length bs) bs ++ 62 ∷ []) else None

-- an id in front of others, if there is one
abbrev pub id_first : Option (List ℕ) → List (List ℕ) → List (List ℕ)
id_first None ids = ids
id_first (Some id) ids = id ∷ ids

-- the ids in order: the parts from a `<` to the next `>` with no blank and no `<` between them
unfoldable pub ids_of : List ℕ → List (List ℕ)
ids_of [] = []
ids_of (b ∷ bs) = if b == 60 then id_first (id_behind bs) (ids_of bs) else ids_of bs

-- the first id, or an empty text
abbrev pub first_id : List (List ℕ) → List ℕ
first_id [] = []
first_id (id ∷ ids) = id
