-- The pieces of an address list and what they spell (RFC 5322, section 3.4, address-list and group, with the empty pieces of section 4.4).
-- Control bytes but blanks, outside of quotes, comments and literals, make their piece bad. A colon outside of brackets begins a group even without a name,
-- so `a@x: b, c` is one bad piece.
use Rattle.std.specs.Prelude.{◌≡◌, ◌≢◌, ◌⊎◌, ℕ, Bool, false, ◌+◌, if◌then◌else◌, List, [], ◌∷◌, ◌++◌, slice_get, Option, None}
use Rattle.std.specs.List.{list_all}
use Rattle.mail_addresses.specs.declared.address.Address.{Address}
use Rattle.mail_addresses.specs.declared.pieces.Place.{Place}
use Rattle.mail_addresses.specs.declared.pieces.Place.TheVariants.{Outside, Brackets, Group, GroupBrackets}
use Rattle.mail_addresses.specs.Lexical.{Lexeme, mark, AreTokens}
use Rattle.mail_addresses.specs.Forms.{is_gap, is_mark, AreGaps, IsDisplayName, IsMailbox}

-- where the tokens after this one stand: `<` and `>` are angle brackets, `:` begins a group and `;` ends it
abbrev pub place_after : Place → Lexeme → Place
place_after Outside t = if is_mark 60 t then Brackets else (if is_mark 58 t then Group else Outside)
place_after Brackets t = if is_mark 62 t then Outside else Brackets
place_after Group t = if is_mark 60 t then GroupBrackets else (if is_mark 59 t then Outside else Group)
place_after GroupBrackets t = if is_mark 62 t then Group else GroupBrackets

-- a comma outside of brackets and groups
abbrev pub is_cut : Place → Lexeme → Bool
is_cut Outside t = is_mark 44 t
is_cut place t = false

-- a token at the front of the first piece
abbrev pub in_first : Lexeme → List (List Lexeme) → List (List Lexeme)
in_first t [] = (t ∷ []) ∷ []
in_first t (piece ∷ pieces) = (t ∷ piece) ∷ pieces

-- the pieces of tokens that begin at this place: what stands between the commas that cut
unfoldable pub pieces_from : Place → List Lexeme → List (List Lexeme)
pieces_from place [] = [] ∷ []
pieces_from place (t ∷ ts) = if is_cut place t then [] ∷ pieces_from Outside ts else in_first t (pieces_from (place_after place t) ts)

abbrev pub pieces : List Lexeme → List (List Lexeme)
pieces ts = pieces_from Outside ts

-- pieces with a comma between one and the next
abbrev pub joined : List (List Lexeme) → List Lexeme
joined [] = []
joined (piece ∷ []) = piece
joined (piece ∷ other ∷ pieces) = piece ++ mark 44 ∷ joined (other ∷ pieces)

-- a piece that is empty, blanks and comments alone, gives nothing; another one gives what it spells
abbrev pub Gives : (List Lexeme → List Address → Type 0) → List Lexeme → List Address → Type 0
Gives Form piece list = (AreGaps piece × (list ≡ [])) ⊎ Form piece list

-- the joined lists of the pieces
abbrev pub Lists : (List Lexeme → List Address → Type 0) → List (List Lexeme) → List Address → Type 0
Lists Form [] list = list ≡ []
Lists Form (piece ∷ pieces) list = (here : List Address) × ((later : List Address) × (list ≡ here ++ later) × Gives Form piece here × Lists Form pieces later)

-- one address, and no other
abbrev pub SpellsMailbox : List Lexeme → List Address → Type 0
SpellsMailbox piece list = (a : Address) × (list ≡ a ∷ []) × IsMailbox piece a

-- a name that isn't empty, and, after its `:`, a list of addresses, `;` and nothing but blanks
pub record IsGrouped (front back : List Lexeme) (list : List Address) : Type 0 where
  pub inside : List Lexeme
  pub after : List Lexeme
  pub name : List ℕ
  pub whole : back ≡ inside ++ mark 59 ∷ after
  pub named : IsDisplayName front name
  pub not_empty : name ≢ []
  pub lists : Lists SpellsMailbox (pieces inside) list
  pub gaps_after : AreGaps after

-- a group: a name that isn't empty, `:`, a list of addresses, `;`
abbrev pub SpellsGroup : List Lexeme → List Address → Type 0
SpellsGroup piece list = (front : List Lexeme) × ((back : List Lexeme) × (piece ≡ front ++ mark 58 ∷ back) × IsGrouped front back list)

-- what a piece that isn't empty may spell
abbrev pub Spells : List Lexeme → List Address → Type 0
Spells piece list = SpellsMailbox piece list ⊎ SpellsGroup piece list

-- a piece that isn't empty and spells nothing
abbrev pub IsBad : List Lexeme → Type 0
IsBad piece = (list_all is_gap piece ≡ false) × ((list : List Address) → Spells piece list → ⊥)

-- number is that of the first bad piece: each one before it gives a list
abbrev pub IsFirstBad : List (List Lexeme) → ℕ → Type 0
IsFirstBad [] number = ⊥
IsFirstBad (piece ∷ pieces) number = (IsBad piece × (number ≡ 0)) ⊎ ((list : List Address) × Gives Spells piece list × ((later : ℕ) × (number ≡ later + 1) × IsFirstBad pieces later))

-- the value's list of addresses
pub record Reads (value : List ℕ) (list : List Address) : Type 0 where
  pub tokens : List Lexeme
  pub are_tokens : AreTokens value tokens
  pub lists : Lists Spells (pieces tokens) list

-- the number of the value's first bad piece
pub record IsFault (value : List ℕ) (number : ℕ) : Type 0 where
  pub tokens : List Lexeme
  pub are_tokens : AreTokens value tokens
  pub first_bad : IsFirstBad (pieces tokens) number

-- the first address of a value's list; none if the list has none, or if a piece of the value is no address
abbrev pub IsFirstAddress : List ℕ → Option Address → Type 0
IsFirstAddress value found =
    ((list : List Address) × Reads value list × (found ≡ slice_get list 0))
    ⊎ ((at : ℕ) × IsFault value at × (found ≡ None))
