-- What is asked of the entries of a header that are kept.
use Rattle.std.specs.Prelude.{ℕ, Bool, ◌&&◌, List}
use Rattle.std.specs.List.{filter_map, list_any}
use Rattle.mail_text.specs.Ascii.{same_ascii}
use Rattle.mail_text.specs.Holding.{holds_ascii}
use Rattle.mail_headers.specs.Field.{Field, unfolded}
use Rattle.mail_headers.specs.Header.{Entry, field_in}

-- whether a field of this name holds the string
abbrev pub is_holding : List ℕ → List ℕ → Field → Bool
is_holding name string f = same_ascii f.name name && holds_ascii string (unfolded f)

-- whether some field among entries is such a one
abbrev pub holding_in : List ℕ → List ℕ → List Entry → Bool
holding_in name string es = list_any (is_holding name string) (filter_map field_in es)
