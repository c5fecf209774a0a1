-- The text of a message with its mark stamped on it, in the fields `Status` and `X-Status`.
-- A text without a body that ends in a line feed loses that line feed if it is changed.
use Rattle.std.specs.Prelude.{ℕ, Bool, false, not, ◌&&◌, ◌||◌, ◌==◌, List, [], ◌∷◌, ◌++◌, map, filter, Option, Some, None, codes, if◌then◌else◌}
use Rattle.std.specs.Str.{bytes_eq}
use Rattle.std.specs.Option.{is_some, unwrap_or}
use Rattle.mail_text.specs.Ascii.{same_ascii}
use Rattle.mail_headers.specs.Field.{Field, unfolded}
use Rattle.mail_headers.specs.Header.{Entry, field, other, entry_bytes, from_line, entries_of, body_of, text_of}
use Rattle.message_state.specs.declared.mark.Flags.{Flags}
use Rattle.message_state.specs.declared.mark.Mark.{Mark}
use Rattle.message_state.specs.Rows.{value_or_empty}
use Rattle.message_state.specs.Status.{status_of, x_status_of, flags_of}

-- ---- one field

-- the entry is a field of this name
abbrev pub is_named : List ℕ → Entry → Bool
is_named name (field f) = same_ascii f.name name
is_named name (other l) = false

-- the entries without the fields of this name
abbrev pub without : List ℕ → List Entry → List Entry
without name es = filter (λ e. not (is_named name e)) es

-- the line of a field with this value, none if the value is empty
abbrev pub field_lines : List ℕ → List ℕ → List (List ℕ)
field_lines name [] = []
field_lines name (b ∷ bs) = (name ++ codes ": " ++ b ∷ bs) ∷ []

-- the text without the fields of this name and, if the value isn't empty, with one that has it last in the header
abbrev pub with_value : List ℕ → List ℕ → List ℕ → List ℕ
with_value name value t = text_of (from_line t) (map entry_bytes (without name (entries_of t)) ++ field_lines name value) (body_of t)

-- what stands after the header: an empty line and the body, if there is one
abbrev pub body_part : Option (List ℕ) → List ℕ
body_part body = if is_some body then 10 ∷ 10 ∷ unwrap_or body [] else []

-- ---- the field `Status`

-- the letters of a mark
abbrev pub letters_of : Mark → List ℕ
letters_of mark = if mark.seen then codes "RO" else codes "O"

-- the field has these letters: they are its value, line feeds and the blanks at its ends aside
abbrev pub has_letters : List ℕ → Option Field → Bool
has_letters letters None = false
has_letters letters (Some f) = bytes_eq (unfolded f) letters

-- the text if its first `Status` field has the letters of the mark, else the text with them in its only one
abbrev pub with_letters : Mark → List ℕ → List ℕ
with_letters mark t = if has_letters (letters_of mark) (status_of t) then t else with_value (codes "Status") (letters_of mark) t

-- ---- the field `X-Status`

-- both or neither
abbrev pub same : Bool → Bool → Bool
same a b = if a then b else not b

abbrev pub same_flags : Flags → Flags → Bool
same_flags a b = same a.answered b.answered && (same a.flagged b.flagged && same a.draft b.draft)

-- the letter, if it is wanted
abbrev pub letter_if : Bool → ℕ → List ℕ
letter_if wanted letter = if wanted then letter ∷ [] else []

-- the letters of flags: `A` answered, `F` flagged, `T` draft
abbrev pub flag_letters : Flags → List ℕ
flag_letters flags = letter_if flags.answered 65 ++ (letter_if flags.flagged 70 ++ letter_if flags.draft 84)

abbrev pub is_flag_letter : ℕ → Bool
is_flag_letter b = b == 65 || (b == 70 || b == 84)

-- the bytes of a value that are letters of no flag
abbrev pub other_bytes : List ℕ → List ℕ
other_bytes value = filter (λ b. not (is_flag_letter b)) value

-- the value for flags: their letters, and the other bytes of the value that the field had
abbrev pub flags_value : Flags → Option Field → List ℕ
flags_value flags found = flag_letters flags ++ other_bytes (value_or_empty found)

-- the text if it has these flags, else the text with them in its only `X-Status` field
abbrev pub with_flags : Flags → List ℕ → List ℕ
with_flags flags t = if same_flags (flags_of t) flags then t else with_value (codes "X-Status") (flags_value flags (x_status_of t)) t

-- ---- both

-- the text with the mark stamped on it: first its letters, then its flags
abbrev pub stamped : List ℕ → Mark → List ℕ
stamped t mark = with_flags mark.flags (with_letters mark t)

-- the text has the letters and the flags of the mark, so that it is left as it is
abbrev pub is_stamped : List ℕ → Mark → Bool
is_stamped t mark = has_letters (letters_of mark) (status_of t) && same_flags (flags_of t) mark.flags
