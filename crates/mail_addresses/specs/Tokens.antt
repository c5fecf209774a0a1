-- The tokens of bytes, computed: they are the tokens that the bytes have.
use Rattle.std.specs.Prelude.{ℕ, zero, suc, ◌+◌, ◌-◌, Bool, true, false, ◌==◌, if◌then◌else◌, List, [], ◌∷◌, length, take, drop, Option, Some, None}
use Rattle.mail_addresses.specs.Lexical.{Lexeme, blanks, comment, atom, quoted, literal, mark, unclosed, is_blank_byte, is_atom_byte}

-- the place of the parenthesis that closes a comment, after i bytes, after a backslash or not, and with `depth` further comments open
unfoldable pub close : Bool → ℕ → ℕ → List ℕ → Option ℕ
close escaped depth i [] = None
close true depth i (b ∷ bs) = close false depth (i + 1) bs
close false depth i (b ∷ bs) = if b == 92 then close true depth (i + 1) bs else
    (if b == 40 then close false (depth + 1) (i + 1) bs else (if b == 41 then (if depth == 0 then Some i else close false (depth - 1) (i + 1) bs) else close false depth (i + 1) bs))

-- the place of the quote that closes a quoted string, after i bytes, after a backslash or not
unfoldable pub unquote : Bool → ℕ → List ℕ → Option ℕ
unquote escaped i [] = None
unquote true i (b ∷ bs) = unquote false (i + 1) bs
unquote false i (b ∷ bs) = if b == 92 then unquote true (i + 1) bs else (if b == 34 then Some i else unquote false (i + 1) bs)

-- a token and what follows it
pub record Step : Type 0 where
  pub token : Lexeme
  pub rest : List ℕ

abbrev pub step : Lexeme → List ℕ → Step
step t rest = record { token = t; rest = rest }

-- a token with this content and end, or the whole as unclosed
unfoldable pub enclosed : (List ℕ → Lexeme) → List ℕ → List ℕ → Option ℕ → Step
enclosed make whole inside None = step (unclosed whole) []
enclosed make whole inside (Some n) = step (make (take n inside)) (drop (n + 1) inside)

-- how many bytes at the front pass
unfoldable pub count_while : (ℕ → Bool) → List ℕ → ℕ
count_while p [] = 0
count_while p (b ∷ bs) = if p b then count_while p bs + 1 else 0

unfoldable pub one_more : Option ℕ → Option ℕ
one_more None = None
one_more (Some n) = Some (n + 1)

-- the place of the first byte that passes
unfoldable pub find_byte : (ℕ → Bool) → List ℕ → Option ℕ
find_byte p [] = None
find_byte p (b ∷ bs) = if p b then Some 0 else one_more (find_byte p bs)

unfoldable pub run_step : (List ℕ → Lexeme) → (ℕ → Bool) → List ℕ → Step
run_step make p bs = step (make (take (count_while p bs) bs)) (drop (count_while p bs) bs)

-- the first token, computed
unfoldable pub first_step : List ℕ → Step
first_step [] = step (unclosed []) []
first_step (b ∷ bs) = if b == 40 then enclosed comment (b ∷ bs) bs (close false 0 0 bs) else
    (if b == 34 then enclosed quoted (b ∷ bs) bs (unquote false 0 bs) else
    (if b == 91 then enclosed literal (b ∷ bs) bs (find_byte (λ c. c == 93) bs) else
    (if is_blank_byte b then run_step blanks is_blank_byte (b ∷ bs) else (if is_atom_byte b then run_step atom is_atom_byte (b ∷ bs) else step (mark b) bs))))

-- the tokens at the front, at most a given number
unfoldable pub tokens_within : ℕ → List ℕ → List Lexeme
tokens_within zero bs = []
tokens_within (suc n) [] = []
tokens_within (suc n) (b ∷ bs) = (first_step (b ∷ bs)).token ∷ tokens_within n (first_step (b ∷ bs)).rest

-- the tokens of bytes
unfoldable pub tokens_in : List ℕ → List Lexeme
tokens_in bytes = tokens_within (length bytes) bytes
