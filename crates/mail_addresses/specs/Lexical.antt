-- The tokens of an address list (RFC 5322, section 3.2). Bytes over 127 are letters of atoms (RFC 6532).
use Rattle.std.specs.Prelude.{◌≡◌, ◌≢◌, ◌<◌, ◌+◌, ℕ, Bool, true, false, not, ◌==◌, ◌&&◌, ◌||◌, nat_lt, List, [], ◌∷◌, ◌++◌, length, take, drop, Option, MatchOption}
use Rattle.std.specs.List.{list_all, list_any}

-- space and tab
unfoldable pub is_blank_byte : ℕ → Bool
is_blank_byte b = b == 32 || b == 9

-- ( ) < > [ ] : ; @ \ , " . (3.2.3, specials)
unfoldable pub is_special : ℕ → Bool
is_special b = list_any (λ c. b == c) (40 ∷ 41 ∷ 60 ∷ 62 ∷ 91 ∷ 93 ∷ 58 ∷ 59 ∷ 64 ∷ 92 ∷ 44 ∷ 34 ∷ 46 ∷ [])

-- what atoms are made of: the bytes above the space but 127 and the specials (3.2.3, atext)
unfoldable pub is_atom_byte : ℕ → Bool
is_atom_byte b = nat_lt 32 b && not (b == 127) && not (is_special b)

-- what stands between the parentheses of a comment: bytes, of which a backslash takes the next one as it is, and comments (3.2.2, ccontent)
pub data IsCommentContent : List ℕ → Type 0 where
  none : IsCommentContent []
  byte : {b : ℕ} {bs : List ℕ} → b ≢ 40 → b ≢ 41 → b ≢ 92 → IsCommentContent bs → IsCommentContent (b ∷ bs)
  pair : {b : ℕ} {bs : List ℕ} → IsCommentContent bs → IsCommentContent (92 ∷ b ∷ bs)
  inner : {inside bs : List ℕ} → IsCommentContent inside → IsCommentContent bs → IsCommentContent (40 ∷ (inside ++ 41 ∷ bs))

-- what stands between the quotes of a quoted string: bytes, of which a backslash takes the next one as it is (3.2.4, qcontent)
pub data IsQuotedContent : List ℕ → Type 0 where
  none : IsQuotedContent []
  byte : {b : ℕ} {bs : List ℕ} → b ≢ 34 → b ≢ 92 → IsQuotedContent bs → IsQuotedContent (b ∷ bs)
  pair : {b : ℕ} {bs : List ℕ} → IsQuotedContent bs → IsQuotedContent (92 ∷ b ∷ bs)

-- what stands between the brackets of a literal: bytes without a closing bracket (3.4.1, dtext)
abbrev pub IsLiteralContent : List ℕ → Type 0
IsLiteralContent bs = list_any (λ b. b == 93) bs ≡ false

-- nowhere does such content end with this byte
abbrev pub NeverEnds : (List ℕ → Type 0) → ℕ → List ℕ → Type 0
NeverEnds IsContent last bs = (inside after : List ℕ) → IsContent inside → bs ≡ inside ++ last ∷ after → ⊥

-- n bytes are such content, and this byte follows them
abbrev pub EndsAt : (List ℕ → Type 0) → ℕ → List ℕ → ℕ → Type 0
EndsAt IsContent last bs n = (n < length bs) × IsContent (take n bs) × (bs ≡ take n bs ++ last ∷ drop (n + 1) bs)

-- where such content ends, if it does
abbrev pub IsEnd : (List ℕ → Type 0) → ℕ → List ℕ → Option ℕ → Type 0
IsEnd IsContent last bs end = MatchOption end (NeverEnds IsContent last bs) (EndsAt IsContent last bs)

-- a parenthesis, a quote or a bracket that nothing closes
pub data NeverCloses : List ℕ → Type 0 where
  comment_open : {bs : List ℕ} → NeverEnds IsCommentContent 41 bs → NeverCloses (40 ∷ bs)
  quote_open : {bs : List ℕ} → NeverEnds IsQuotedContent 34 bs → NeverCloses (34 ∷ bs)
  literal_open : {bs : List ℕ} → NeverEnds IsLiteralContent 93 bs → NeverCloses (91 ∷ bs)

-- a token: of a comment, a quoted string and a literal what stands inside, of a mark its one byte
pub data Lexeme : Type 0 where
  blanks : List ℕ → Lexeme
  comment : List ℕ → Lexeme
  atom : List ℕ → Lexeme
  quoted : List ℕ → Lexeme
  literal : List ℕ → Lexeme
  mark : ℕ → Lexeme
  unclosed : List ℕ → Lexeme

-- the bytes of a token
abbrev pub text_of : Lexeme → List ℕ
text_of (blanks run) = run
text_of (comment inside) = 40 ∷ (inside ++ 41 ∷ [])
text_of (atom run) = run
text_of (quoted inside) = 34 ∷ (inside ++ 34 ∷ [])
text_of (literal inside) = 91 ∷ (inside ++ 93 ∷ [])
text_of (mark b) = b ∷ []
text_of (unclosed text) = text

-- the bytes of tokens, joined
unfoldable pub texts : List Lexeme → List ℕ
texts [] = []
texts (t ∷ ts) = text_of t ++ texts ts

-- whether there is a first element and it passes
abbrev pub begins : {A : Type 0} → (A → Bool) → List A → Bool
begins p [] = false
begins p (x ∷ xs) = p x

-- one or more bytes that pass, before a rest that doesn't begin with one
pub record IsRun (p : ℕ → Bool) (run rest : List ℕ) : Type 0 where
  pub some : run ≢ []
  pub all : list_all p run ≡ true
  pub ends : begins p rest ≡ false

-- a token may stand before this rest
abbrev pub IsToken : Lexeme → List ℕ → Type 0
IsToken (blanks run) rest = IsRun is_blank_byte run rest
IsToken (comment inside) rest = IsCommentContent inside
IsToken (atom run) rest = IsRun is_atom_byte run rest
IsToken (quoted inside) rest = IsQuotedContent inside
IsToken (literal inside) rest = IsLiteralContent inside
IsToken (mark b) rest = (is_blank_byte b ≡ false) × (is_atom_byte b ≡ false) × (b ≢ 40) × (b ≢ 34) × (b ≢ 91)
IsToken (unclosed text) rest = NeverCloses text × (rest ≡ [])

-- each token may stand before the ones after it and this rest
abbrev pub StandBefore : List Lexeme → List ℕ → Type 0
StandBefore [] rest = Unit {0}
StandBefore (t ∷ ts) rest = IsToken t (texts ts ++ rest) × StandBefore ts rest

-- the tokens of a value
pub record AreTokens (value : List ℕ) (ts : List Lexeme) : Type 0 where
  pub joined : texts ts ≡ value
  pub stand : StandBefore ts []
