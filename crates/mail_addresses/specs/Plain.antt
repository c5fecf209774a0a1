-- Parts of an address at the front of bytes, as most addresses are written: no comments, no quotes but around a whole name.
use Rattle.std.specs.Prelude.{◌≡◌, ℕ, true, false, List, ◌∷◌, ◌++◌}
use Rattle.mail_addresses.specs.Lexical.{Lexeme, texts, is_blank_byte, is_atom_byte, begins, IsRun, StandBefore}
use Rattle.mail_addresses.specs.Forms.{is_dot_atom, IsSpec, IsName, IsDisplayName, AreGaps}

-- the tokens at the front of bytes, before what follows them
pub record AreFront (bytes after : List ℕ) (ts : List Lexeme) : Type 0 where
  pub joined : bytes ≡ texts ts ++ after
  pub stand : StandBefore ts after

-- an atom at the front
pub record IsAtomFront (bytes run after : List ℕ) : Type 0 where
  pub joined : bytes ≡ run ++ after
  pub is_run : IsRun is_atom_byte run after

-- atoms joined by single dots at the front
abbrev pub HasDots : List ℕ → List ℕ → Type 0
HasDots bytes after = (ts : List Lexeme) × AreFront bytes after ts × (is_dot_atom ts ≡ true)

-- a spec at the front, with a local part of n bytes
abbrev pub HasSpec : List ℕ → ℕ → List ℕ → Type 0
HasSpec bytes n after = (ts : List Lexeme) × AreFront bytes after ts × IsSpec ts n

-- a display name at the front, and a `<` and other bytes after it
abbrev pub HasName : List ℕ → List ℕ → List ℕ → Type 0
HasName bytes name back = (ts : List Lexeme) × AreFront bytes (60 ∷ back) ts × IsDisplayName ts name

-- blanks or nothing at the front, and a `<` and other bytes after them
pub record HasGaps (bytes back : List ℕ) : Type 0 where
  pub gaps : List Lexeme
  pub front : AreFront bytes (60 ∷ back) gaps
  pub are_gaps : AreGaps gaps

-- words at the front, each a space from the next, with this text, and a `<` after them
pub record HasWords (bytes text back : List ℕ) : Type 0 where
  pub words : List Lexeme
  pub gaps : List Lexeme
  pub front : AreFront bytes (60 ∷ back) (words ++ gaps)
  pub starts : begins is_blank_byte bytes ≡ false
  pub is_name : IsName words text
  pub are_gaps : AreGaps gaps
