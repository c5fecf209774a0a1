-- What a line of a draft is: bytes for the body, or an escape with what stands after its letter.
use Rattle.std.specs.Prelude.{ℕ, Bool, ◌&&◌, ◌||◌, ◌==◌, List, [], ◌∷◌, length, Option, Some, None, slice_get, codes, if◌then◌else◌}
use Rattle.std.specs.Option.{option_map, option_and_then}
use Rattle.std.specs.Str.{bytes_eq}
use Rattle.mail_headers.specs.Field.{trim_start, trim_end}
use Rattle.mailx_vars.specs.Settings.{Settings, value_of, is_set}
use Rattle.line_words.specs.Words.{words_of, list_words_of}
use Rattle.compose_tilde.specs.declared.reading.Given.{Given}
use Rattle.compose_tilde.specs.declared.escape.Behind.{Behind}
use Rattle.compose_tilde.specs.declared.escape.Behind.TheVariants as behind

-- the byte that begins an escape: the first of the variable `escape`; none if that is empty or unset
abbrev pub escape_byte : Settings → Option ℕ
escape_byte vars = option_and_then (λ value. slice_get value 0) (value_of vars (codes "escape"))

-- a line of a draft: bytes for the body, the escape byte alone, or an escape: its letter and the rest of the line
pub data Written : Type 0 where
  plain : List ℕ → Written
  alone : Written
  escaped : ℕ → List ℕ → Written

-- what stands after the escape byte: nothing, the byte again, which stands for itself, or a letter and the rest
abbrev pub behind_mark : ℕ → List ℕ → Written
behind_mark mark [] = alone
behind_mark mark (letter ∷ rest) = if letter == mark then plain (letter ∷ rest) else escaped letter rest

-- a line, with the escape byte, if there is one
abbrev pub reading_of : Option ℕ → List ℕ → Written
reading_of (Some mark) (b ∷ rest) = if b == mark then behind_mark mark rest else plain (b ∷ rest)
reading_of mark line = plain line

-- the line ends the draft: it is `.`, and `dot` is set
abbrev pub is_end : Settings → List ℕ → Bool
is_end vars line = bytes_eq line (codes ".") && is_set vars (codes "dot")

-- the argument of an escape: the rest of its line without blanks at either end
abbrev pub argument : List ℕ → List ℕ
argument rest = trim_end (trim_start rest)

abbrev pub is_empty : List ℕ → Bool
is_empty bytes = length bytes == 0

-- the argument as it is
abbrev pub as_is : List ℕ → Given
as_is bytes = record { whole = bytes; words = [] }

-- the argument cut into words, if each quote is closed
abbrev pub cut : List ℕ → Option Given
cut bytes = option_map (λ words. record { whole = bytes; words = words }) (words_of bytes)

-- the same for a list of messages
abbrev pub list_cut : List ℕ → Option Given
list_cut bytes = option_map (λ words. record { whole = bytes; words = words }) (list_words_of bytes)

-- what an escape is given that takes this: none if an argument is missing, if one stands that it doesn't take, if `!`
-- has no command after it, and if a quote isn't closed
abbrev pub given_for : Behind → List ℕ → Option Given
given_for behind.Nothing bytes = if is_empty bytes then Some (as_is bytes) else None
given_for behind.Anything bytes = Some (as_is bytes)
given_for behind.Argument bytes = if is_empty bytes then None else Some (as_is bytes)
given_for behind.Source bytes = if is_empty bytes || bytes_eq bytes (codes "!") then None else Some (as_is bytes)
given_for behind.Words bytes = if is_empty bytes then None else cut bytes
given_for behind.List bytes = list_cut bytes
