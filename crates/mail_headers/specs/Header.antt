-- A message's text by its parts: the From line, the header's lines, the body (RFC 5322, section 2.1), and the fields of
-- the header (section 2.2).
-- A line of blanks alone isn't empty, and a carriage return is no blank and ends no line.
use Rattle.std.specs.Prelude.{◌≢◌, ℕ, ◌-◌, Bool, true, false, ◌&&◌, ◌==◌, List, [], ◌∷◌, ◌++◌, length, drop, find, slice_index, Option, Some, None, if◌then◌else◌}
use Rattle.std.specs.List.{take_while, join_with_byte, filter_map}
use Rattle.mail_text.specs.Ascii.{same_ascii}
use Rattle.mail_text.specs.Lines.{lines_of}
use Rattle.mail_headers.specs.Field.{Field, begins_field, is_folded, field_of, field_bytes}

-- the first of some lines, or an empty one
abbrev pub first_line : List (List ℕ) → List ℕ
first_line [] = []
first_line (l ∷ ls) = l

-- the From line of a text: its first line
abbrev pub from_line : List ℕ → List ℕ
from_line t = first_line (lines_of t)

-- the line has a byte
abbrev pub has_bytes : List ℕ → Bool
has_bytes [] = false
has_bytes (b ∷ bs) = true

-- the header's lines: those after the From line up to the first empty one, or to the end
abbrev pub header_lines : List ℕ → List (List ℕ)
header_lines t = take_while has_bytes (drop 1 (lines_of t))

-- two line feeds in a row stand in front: a line ends, and an empty line follows
abbrev pub has_two_feeds : List ℕ → Bool
has_two_feeds bs = slice_index bs 0 == 10 && slice_index bs 1 == 10

-- the body: what follows the first empty line after the From line, if there is one
unfoldable pub body_of : List ℕ → Option (List ℕ)
body_of [] = None
body_of (b ∷ bs) = if has_two_feeds (b ∷ bs) then Some (drop 1 bs) else body_of bs

-- a part of the header: a field with the folded lines that belong to it, or a line that is no field
pub data Entry : Type 0 where
  field : Field → Entry
  other : List ℕ → Entry

-- the entry as it stands
abbrev pub entry_bytes : Entry → List ℕ
entry_bytes (field f) = field_bytes f
entry_bytes (other l) = l

-- the field, if the entry is one
abbrev pub field_in : Entry → Option Field
field_in (field f) = Some f
field_in (other l) = None

-- the entries of some lines. A line that begins a field is the field, with the folded lines right after it. `within` means
-- that the line before is of a field: a folded line is then part of that field, and no entry of its own. Any other line
-- is an entry by itself.
unfoldable pub entries_from : Bool → List (List ℕ) → List Entry
entries_from within [] = []
entries_from within (l ∷ ls) =
    if begins_field l then field (field_of (join_with_byte 10 (l ∷ take_while is_folded ls))) ∷ entries_from true ls
    else (if within && is_folded l then entries_from true ls else other l ∷ entries_from false ls)

-- the entries of a text's header, in order
abbrev pub entries_of : List ℕ → List Entry
entries_of t = entries_from false (header_lines t)

-- the fields of a text's header, in order
abbrev pub fields_of : List ℕ → List Field
fields_of t = filter_map field_in (entries_of t)

-- the first field of this name, ASCII case ignored
abbrev pub field_named : List ℕ → List ℕ → Option Field
field_named name t = find (λ f. same_ascii f.name name) (fields_of t)

-- the text of a From line, lines of a header and a body, if there is one
abbrev pub text_of : List ℕ → List (List ℕ) → Option (List ℕ) → List ℕ
text_of from lines None = join_with_byte 10 (from ∷ lines)
text_of from lines (Some body) = join_with_byte 10 (from ∷ lines) ++ 10 ∷ 10 ∷ body

-- the text's last byte, if it has one, is no line feed
abbrev pub EndsInNoFeed : List ℕ → Type 0
EndsInNoFeed t = slice_index t (length t - 1) ≢ 10
