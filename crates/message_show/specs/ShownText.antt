-- The text of a message as it is shown.
use Rattle.std.specs.Prelude.{◌≡◌, ℕ, Bool, true, List, map, filter, take}
use Rattle.std.specs.List.{flat_map}
use Rattle.mail_text.specs.Lines.{lines_of, with_feed}
use Rattle.mail_headers.specs.Header.{Entry, field, other, entry_bytes, entries_of, from_line, body_of, text_of, EndsInNoFeed}
use Rattle.message_show.specs.declared.text.How.{How}
use Rattle.message_show.specs.declared.text.How.TheVariants.{Kept, All}
use Rattle.message_show.specs.FieldSets.{FieldNames, keeps}

-- the entry is a kept field, or a line that is no field
abbrev pub is_kept : FieldNames → Entry → Bool
is_kept sets (field f) = keeps sets f.name
is_kept sets (other l) = true

-- the entry is shown: all are, or those that are kept
abbrev pub is_shown : FieldNames → How → Entry → Bool
is_shown sets Kept entry = is_kept sets entry
is_shown sets All entry = true

-- the From line, the entries that are shown, and the body after an empty line, if there is one
abbrev pub shown_text : List ℕ → FieldNames → How → List ℕ
shown_text t sets how = text_of (from_line t) (map entry_bytes (filter (is_shown sets how) (entries_of t))) (body_of t)

-- the first lines of what is shown, each ended by a line feed
abbrev pub top_text : List ℕ → FieldNames → ℕ → List ℕ
top_text t sets count = flat_map with_feed (take count (lines_of (shown_text t sets Kept)))

-- with all fields the shown text is the text, if that ends in no line feed
abbrev pub AllIsWhole : Type 0
AllIsWhole = (t : List ℕ) (sets : FieldNames) → EndsInNoFeed t → shown_text t sets All ≡ t
