-- The lines of a text: what stands between its line feeds. A carriage return is a byte like any other.
use Rattle.std.specs.Prelude.{ℕ, ◌≢◌, ◌==◌, List, [], ◌∷◌, ◌++◌, if◌then◌else◌, All}

-- a byte in front of the first line
abbrev pub in_front : ℕ → List (List ℕ) → List (List ℕ)
in_front b [] = (b ∷ []) ∷ []
in_front b (l ∷ ls) = (b ∷ l) ∷ ls

-- the pieces between line feeds; a line feed at the end makes no further piece
unfoldable pub lines_of : List ℕ → List (List ℕ)
lines_of [] = []
lines_of (b ∷ bs) = if b == 10 then [] ∷ lines_of bs else in_front b (lines_of bs)

-- a line with its line feed
abbrev pub with_feed : List ℕ → List ℕ
with_feed l = l ++ 10 ∷ []

-- no byte of the line is a line feed
abbrev pub HasNoFeed : List ℕ → Type 0
HasNoFeed l = All (λ b. b ≢ 10) l

-- the text with a line feed at its end, which is added if the text has bytes and lacks it
unfoldable pub fed : List ℕ → List ℕ
fed [] = []
fed (b ∷ []) = if b == 10 then b ∷ [] else b ∷ 10 ∷ []
fed (b ∷ c ∷ bs) = b ∷ fed (c ∷ bs)
