-- The first piece of a value: its tokens, and what follows the comma that cuts it off, if one does.
use Rattle.std.specs.Prelude.{◌≡◌, ◌<◌, ℕ, List, [], ◌∷◌, ◌++◌, length}
use Rattle.mail_addresses.specs.Lexical.{Lexeme, mark, AreTokens}
use Rattle.mail_addresses.specs.Listing.{pieces}

-- the value is one piece
pub record IsLastPiece (value : List ℕ) (piece : List Lexeme) : Type 0 where
  pub are_tokens : AreTokens value piece
  pub one : pieces piece ≡ piece ∷ []

-- a comma cuts the piece off from what follows it
pub record IsPieceBefore (value : List ℕ) (piece : List Lexeme) (after : List ℕ) : Type 0 where
  pub less : length after < length value
  pub are_tokens : (later : List Lexeme) → AreTokens after later → AreTokens value (piece ++ mark 44 ∷ later)
  pub cut : (later : List Lexeme) → pieces (piece ++ mark 44 ∷ later) ≡ piece ∷ pieces later
