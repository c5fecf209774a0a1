-- The texts of a draft: the message that is sent (RFC 5322, section 2.1), and the text that is put into a mailbox.
use Rattle.std.specs.Prelude.{ℕ, ◌==◌, nat_eq, List, [], ◌∷◌, ◌++◌, map, length, codes, if◌then◌else◌}
use Rattle.std.specs.List.{starts_with, flat_map}
use Rattle.mail_text.specs.Lines.{lines_of, with_feed, fed}
use Rattle.mail_headers.specs.Field.{Field, field_bytes}
use Rattle.mail_dates.specs.declared.moment.Moment.{Moment}
use Rattle.mail_dates.specs.Printed.{date_text, from_date_text}
use Rattle.mbox_scan.specs.Mailbox.{from_mark, trimmed}
use Rattle.draft_text.specs.declared.draft.Draft.{Draft}

-- texts with a separator between them: the first, and each later one after the separator
abbrev pub joined : List ℕ → List (List ℕ) → List ℕ
joined separator [] = []
joined separator (t ∷ later) = t ++ flat_map (λ u. separator ++ u) later

-- the field of this name whose value stands after a space
abbrev pub spaced_field : List ℕ → List ℕ → Field
spaced_field name value = record { name = name; value = 32 ∷ value }

-- that field alone; an empty value makes none
abbrev pub filled : List ℕ → List ℕ → List Field
filled name value = if length value == 0 then [] else spaced_field name value ∷ []

-- the values of a draft's fields in the order in which they are written, each after its field's name (RFC 5322, 3.6)
abbrev pub draft_values : Draft → Moment → List (List ℕ × List ℕ)
draft_values draft m =
    (codes "Date", date_text m)
    ∷ (codes "From", draft.from)
    ∷ (codes "To", joined (codes ", ") draft.to)
    ∷ (codes "Cc", joined (codes ", ") draft.cc)
    ∷ (codes "Subject", draft.subject)
    ∷ (codes "In-Reply-To", draft.reply)
    ∷ (codes "References", joined (codes " ") draft.references)
    ∷ []

-- the fields of these names with these values, but for empty ones
abbrev pub all_filled : List (List ℕ × List ℕ) → List Field
all_filled values = flat_map (λ v. filled v.0 v.1) values

-- the fields of a draft
unfoldable pub draft_fields : Draft → Moment → List Field
draft_fields draft m = all_filled (draft_values draft m)

-- fields, each on a line
abbrev pub field_lines : List Field → List ℕ
field_lines fields = flat_map (λ f. with_feed (field_bytes f)) fields

-- what the sender gets: the fields, an empty line, and the body, which ends in a line feed if it has bytes
unfoldable pub message_text : Draft → Moment → List ℕ
message_text draft m = field_lines (draft_fields draft m) ++ 10 ∷ fed draft.body

-- what stands in a mailbox before a line of a body: `>` if the line begins with `From `
abbrev pub quote : List ℕ → List ℕ
quote line = if starts_with nat_eq line from_mark then codes ">" else []

abbrev pub quoted_line : List ℕ → List ℕ
quoted_line line = quote line ++ line

-- the lines of a body as a mailbox has them
abbrev pub quoted : List ℕ → List ℕ
quoted body = flat_map (λ line. with_feed (quoted_line line)) (lines_of body)

-- the line that begins a message in a mailbox: `From `, the user and the moment
abbrev pub opening_line : List ℕ → Moment → List ℕ
opening_line user m = from_mark ++ (user ++ codes " " ++ from_date_text m)

-- what is put into a mailbox: that line and the message, its body quoted, without line feeds at the end
unfoldable pub mbox_text : Draft → List ℕ → Moment → List ℕ
mbox_text draft user m =
    trimmed (with_feed (opening_line user m) ++ field_lines (draft_fields draft m) ++ 10 ∷ quoted draft.body)

-- a byte of a part but the body: a line feed is put as a space
abbrev pub flat_byte : ℕ → ℕ
flat_byte b = if b == 10 then 32 else b

abbrev pub flat : List ℕ → List ℕ
flat bytes = map flat_byte bytes

-- the draft with each line feed put as a space, but for those of its body
abbrev pub flattened : Draft → Draft
flattened draft = record draft {
  to = map flat draft.to;
  cc = map flat draft.cc;
  bcc = map flat draft.bcc;
  subject = flat draft.subject;
  from = flat draft.from;
  reply = flat draft.reply;
  references = map flat draft.references;
}
