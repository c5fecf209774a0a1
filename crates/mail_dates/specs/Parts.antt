-- The parts of a date's text. Blanks and comments may stand around each part: RFC 5322, sections 3.2.2
-- and 4.3.
-- A zone's sign and digits are one part, so `+ 0100` is no zone.
use Rattle.std.specs.Prelude.{ℕ, zero, suc, ◌||◌, ◌==◌, if◌then◌else◌, List, [], ◌∷◌}
use Rattle.std.specs.Char.{is_ascii_digit, is_ascii_alphabetic}

-- where a byte of the text stands: outside comments, or in a comment that stands in a given number of others, there
-- also after a backslash, which takes the next byte
pub data Place : Type 0 where
  Outside : Place
  Inside : ℕ → Place
  Escaped : ℕ → Place

-- after the parenthesis that closes a comment
abbrev pub closed : ℕ → Place
closed zero = Outside
closed (suc depth) = Inside depth

-- after a byte of a comment: `\`, `(`, `)` or another
abbrev pub after_comment_byte : ℕ → ℕ → Place
after_comment_byte depth b =
    if b == 92 then Escaped depth
    else (if b == 40 then Inside (suc depth) else (if b == 41 then closed depth else Inside depth))

-- the text with a space in place of each comment; one that isn't closed leaves its parenthesis, which is
-- no part of a date
unfoldable pub without_comments : Place → List ℕ → List ℕ
without_comments Outside [] = []
without_comments (Inside depth) [] = 40 ∷ []
without_comments (Escaped depth) [] = 40 ∷ []
without_comments Outside (b ∷ bs) =
    if b == 40 then 32 ∷ without_comments (Inside 0) bs else b ∷ without_comments Outside bs
without_comments (Inside depth) (b ∷ bs) = without_comments (after_comment_byte depth b) bs
without_comments (Escaped depth) (b ∷ bs) = without_comments (Inside depth) bs

-- digits, letters, a sign with the digits that follow it at once, a mark, a blank, or another byte
pub data Part : Type 0 where
  Number : List ℕ → Part
  Word : List ℕ → Part
  Signed : ℕ → List ℕ → Part
  Comma : Part
  Colon : Part
  Blank : Part
  Other : ℕ → Part

-- a digit belongs to the number that follows it at once
abbrev pub digit_before : ℕ → List Part → List Part
digit_before b (Number ds ∷ ps) = Number (b ∷ ds) ∷ ps
digit_before b ps = Number (b ∷ []) ∷ ps

-- a letter belongs to the word that follows it at once
abbrev pub letter_before : ℕ → List Part → List Part
letter_before b (Word w ∷ ps) = Word (b ∷ w) ∷ ps
letter_before b ps = Word (b ∷ []) ∷ ps

-- a sign belongs to the number that follows it at once
abbrev pub sign_before : ℕ → List Part → List Part
sign_before b (Number ds ∷ ps) = Signed b ds ∷ ps
sign_before b ps = Other b ∷ ps

-- any other byte is a part by itself: space and tab are blanks
abbrev pub single : ℕ → Part
single b =
    if (b == 32) || (b == 9) then Blank else (if b == 44 then Comma else (if b == 58 then Colon else Other b))

-- the parts of a byte and what follows it
abbrev pub byte_before : ℕ → List Part → List Part
byte_before b ps =
    if is_ascii_digit b then digit_before b ps
    else (if is_ascii_alphabetic b then letter_before b ps
    else (if (b == 43) || (b == 45) then sign_before b ps else single b ∷ ps))

-- the parts of a text with no comments, its blanks among them
unfoldable pub parts_of : List ℕ → List Part
parts_of [] = []
parts_of (b ∷ bs) = byte_before b (parts_of bs)

-- the parts but for the blanks
unfoldable pub without_blanks : List Part → List Part
without_blanks [] = []
without_blanks (Blank ∷ ps) = without_blanks ps
without_blanks (p ∷ ps) = p ∷ without_blanks ps

-- the parts of a date's text
abbrev pub date_parts : List ℕ → List Part
date_parts text = without_blanks (parts_of (without_comments Outside text))
