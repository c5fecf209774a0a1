-- Blanks, and texts that differ in the case of ASCII letters alone.
use Rattle.std.specs.Prelude.{ℕ, Bool, ◌||◌, ◌==◌, List}
use Rattle.std.specs.Str.{bytes_eq, str_to_ascii_lowercase}

-- a blank: a space or a tab
abbrev pub is_blank : ℕ → Bool
is_blank b = b == 32 || b == 9

-- the texts are equal once their ASCII letters are in lower case
abbrev pub same_ascii : List ℕ → List ℕ → Bool
same_ascii a b = bytes_eq (str_to_ascii_lowercase a) (str_to_ascii_lowercase b)
