-- The tokens of a word: parentheses, runs of bytes, quoted strings, and the blanks between them.
use Rattle.std.specs.Prelude.{ℕ, Bool, true, false, not, ◌==◌, ◌&&◌, ◌||◌, nat_lt, List, [], ◌∷◌, filter, if◌then◌else◌}
use Rattle.mail_text.specs.Ascii.{is_blank}
use Rattle.mail_search.specs.declared.token.Token as code
use Rattle.mail_search.specs.declared.token.Token.TheVariants as part

-- a token: a parenthesis, a blank, a run, a quoted string without its quotes and backslashes, or a byte that begins nothing or
-- a quote that nothing closes
pub data Token : Type 0 where
  opener : Token
  closer : Token
  gap : Token
  run : List ℕ → Token
  quoted : List ℕ → Token
  bad : Token

-- a byte of a run: above 32, and neither 127 nor a double quote or a parenthesis
abbrev pub is_run_byte : ℕ → Bool
is_run_byte b = nat_lt 32 b && not (b == 34 || b == 40 || b == 41 || b == 127)

-- a byte of a run belongs to the run that follows it at once
abbrev pub run_before : ℕ → List Token → List Token
run_before b (run bs ∷ ts) = run (b ∷ bs) ∷ ts
run_before b ts = run (b ∷ []) ∷ ts

-- a byte between quotes belongs to the string that it stands in, if that is closed
abbrev pub quoted_before : ℕ → List Token → List Token
quoted_before b (quoted bs ∷ ts) = quoted (b ∷ bs) ∷ ts
quoted_before b ts = ts

-- outside of quotes, inside, or inside right after a backslash, which takes the next byte as it is
pub data Place : Type 0 where
  outside : Place
  inside : Place
  taken : Place

-- the tokens of bytes that begin at this place
unfoldable pub tokens_from : Place → List ℕ → List Token
tokens_from outside [] = []
tokens_from inside [] = bad ∷ []
tokens_from taken [] = bad ∷ []
tokens_from outside (b ∷ bs) =
    if is_run_byte b then run_before b (tokens_from outside bs)
    else (if b == 34 then tokens_from inside bs
    else (if b == 40 then opener ∷ tokens_from outside bs
    else (if b == 41 then closer ∷ tokens_from outside bs
    else (if is_blank b then gap ∷ tokens_from outside bs else bad ∷ tokens_from outside bs))))
tokens_from inside (b ∷ bs) =
    if b == 92 then tokens_from taken bs
    else (if b == 34 then quoted [] ∷ tokens_from outside bs else quoted_before b (tokens_from inside bs))
tokens_from taken (b ∷ bs) = quoted_before b (tokens_from inside bs)

-- the tokens of a word
abbrev pub tokens_of : List ℕ → List Token
tokens_of word = tokens_from outside word

abbrev pub is_gap : Token → Bool
is_gap gap = true
is_gap t = false

abbrev pub is_opener : Token → Bool
is_opener opener = true
is_opener t = false

abbrev pub is_closer : Token → Bool
is_closer closer = true
is_closer t = false

-- blanks stand before each token, but after `(` and before `)` they may be left out; `free` if the first token needs none
unfoldable pub spaced_from : Bool → List Token → Bool
spaced_from free [] = true
spaced_from free (t ∷ ts) = if is_gap t then spaced_from true ts else (free || is_closer t) && spaced_from (is_opener t) ts

-- the tokens but for the blanks
abbrev pub without_gaps : List Token → List Token
without_gaps ts = filter (λ t. not (is_gap t)) ts

-- the token that the code's token stands for
abbrev pub token_of : code.Token → Token
token_of part.Open = opener
token_of part.Close = closer
token_of part.Gap = gap
token_of (part.Run bytes) = run bytes.now
token_of (part.Quoted string) = quoted string
token_of part.Bad = bad
