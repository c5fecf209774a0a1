-- Address lists of which a piece may be bad.
use Rattle.std.specs.Prelude.{◌≡◌, ◌≢◌, List, [], ◌∷◌, ◌++◌}
use Rattle.mail_addresses.specs.declared.address.Address.{Address}
use Rattle.mail_addresses.specs.Lexical.{Lexeme, mark}
use Rattle.mail_addresses.specs.Listing.{Lists, Spells, joined, pieces}

-- good pieces before a comma (44), at least one, are cut into the same pieces again, whatever follows the comma
abbrev pub GoodPiecesAreCut : Type 0
GoodPiecesAreCut = (good : List (List Lexeme)) (list : List Address) (rest : List Lexeme)
    → good ≢ [] → Lists Spells good list → pieces (joined good ++ mark 44 ∷ rest) ≡ good ++ pieces rest
