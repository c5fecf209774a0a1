-- Whether a string stands in a text.
use Rattle.std.specs.Prelude.{ℕ, ◌+◌, Bool, List, length}
use Rattle.std.specs.List.{list_any, range_with_len}
use Rattle.std.specs.Str.{str_to_ascii_lowercase}
use Rattle.memchr.specs.Find.{occurs_at}

-- the string stands at some place of the text
unfoldable pub holds : List ℕ → List ℕ → Bool
holds string text = list_any (occurs_at text string) (range_with_len 0 (length text + 1))

-- the string stands at some place of the text, the case of ASCII letters aside
abbrev pub holds_ascii : List ℕ → List ℕ → Bool
holds_ascii string text = holds (str_to_ascii_lowercase string) (str_to_ascii_lowercase text)
