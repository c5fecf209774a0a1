-- What parentheses enclose: `(`, and what follows it up to the `)` that closes it.
use Rattle.std.specs.Prelude.{◌≡◌, ◌⊎◌, ℕ, Bool, true, false, not, ◌==◌, ◌||◌, List, [], ◌∷◌, ◌++◌}

-- a byte that stands for itself in a string: no double quote and no backslash
abbrev pub is_string_byte : ℕ → Bool
is_string_byte b = not (b == 34 || b == 92)

-- bytes in a string, in which a backslash takes the next byte
pub data InString : List ℕ → Type 0 where
  no_byte : InString []
  one_byte : (s : List ℕ) (b : ℕ) → InString s → is_string_byte b ≡ true → InString (s ++ b ∷ [])
  taken_byte : (s : List ℕ) (b : ℕ) → InString s → InString (s ++ 92 ∷ b ∷ [])

-- bytes after a double quote that nothing closes
abbrev pub IsOpenString : List ℕ → Type 0
IsOpenString run = InString run ⊎ ((s : List ℕ) × InString s × (run ≡ s ++ 92 ∷ []))

-- a byte that stands for itself in parentheses: no double quote and no parenthesis
abbrev pub is_inner_byte : ℕ → Bool
is_inner_byte b = not (b == 34 || b == 40 || b == 41)

-- bytes whose strings and parentheses are closed
pub data IsClosed : List ℕ → Type 0 where
  nothing : IsClosed []
  inner : (bs : List ℕ) (b : ℕ) → IsClosed bs → is_inner_byte b ≡ true → IsClosed (bs ++ b ∷ [])
  string : (bs s : List ℕ) → IsClosed bs → InString s → IsClosed (bs ++ 34 ∷ (s ++ 34 ∷ []))
  group : (bs cs : List ℕ) → IsClosed bs → IsClosed cs → IsClosed (bs ++ 40 ∷ (cs ++ 41 ∷ []))

-- `(`, and the `)` that closes it
abbrev pub IsEnclosed : List ℕ → Type 0
IsEnclosed text = (bs : List ℕ) × IsClosed bs × (text ≡ 40 ∷ (bs ++ 41 ∷ []))

-- `(`, and no `)` that closes it: what is closed stands after it and after each further one that nothing closes
pub data IsUnclosed : List ℕ → Type 0 where
  one : (bs : List ℕ) → IsClosed bs → IsUnclosed (40 ∷ bs)
  more : (text bs : List ℕ) → IsUnclosed text → IsClosed bs → IsUnclosed (text ++ 40 ∷ bs)
