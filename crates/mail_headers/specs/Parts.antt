-- The parts of a text that a header knows.
use Rattle.std.specs.Prelude.{◌≡◌, ℕ, ◌≤◌, List, [], ◌∷◌, length, drop, Option, Some, None, if◌then◌else◌}
use Rattle.mail_headers.specs.Header.{has_two_feeds, body_of}

-- what stands before the first two line feeds in a row, or all
unfoldable pub head_of : List ℕ → List ℕ
head_of [] = []
head_of (b ∷ bs) = if has_two_feeds (b ∷ bs) then [] else b ∷ head_of bs

-- the body of the text starts at the place, and without a place it has none
abbrev pub IsBodyPlace : List ℕ → Option ℕ → Type 0
IsBodyPlace text None = body_of text ≡ None
IsBodyPlace text (Some place) = (place ≤ length text) × (body_of text ≡ Some (drop place text))
