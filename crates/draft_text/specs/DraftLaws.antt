-- What holds of the texts of every draft.
use Rattle.std.specs.Prelude.{◌≡◌, ℕ, false, ◌==◌, nat_eq, List, [], ◌++◌, drop, map, length, Some, None, codes, if◌then◌else◌, All}
use Rattle.std.specs.List.{starts_with}
use Rattle.std.specs.Option.{option_map, unwrap_or}
use Rattle.mail_text.specs.Lines.{lines_of, with_feed, fed, HasNoFeed}
use Rattle.mail_headers.specs.Field.{Field, trim_start, trim_end, unfolded}
use Rattle.mail_headers.specs.Header.{field, from_line, entries_of, field_named, body_of}
use Rattle.mail_dates.specs.declared.moment.Moment.{Moment}
use Rattle.mail_dates.specs.Clock.{IsPrintable}
use Rattle.mail_dates.specs.Printed.{date_text}
use Rattle.mail_dates.specs.FromLines.{sender_of, arrival_of}
use Rattle.mail_dates.specs.Laws.{IsWord, as_shown}
use Rattle.mbox_scan.specs.Mailbox.{from_mark, trimmed, IsProper}
use Rattle.draft_text.specs.declared.draft.Draft.{Draft}
use Rattle.draft_text.specs.Texts.{joined, draft_fields, message_text, quoted, opening_line, mbox_text, flattened}

-- no part of the draft but its body holds a line feed
pub record HasFlatParts (draft : Draft) : Type 0 where
  pub to : All HasNoFeed draft.to
  pub cc : All HasNoFeed draft.cc
  pub bcc : All HasNoFeed draft.bcc
  pub subject : HasNoFeed draft.subject
  pub from : HasNoFeed draft.from
  pub reply : HasNoFeed draft.reply
  pub references : All HasNoFeed draft.references

-- the text that is put into a mailbox is proper
abbrev pub StoredIsProper : Type 0
StoredIsProper = (draft : Draft) (user : List ℕ) (m : Moment)
    → IsPrintable m → HasFlatParts draft → HasNoFeed user → IsProper (mbox_text draft user m)

-- what the text of a message has: this From line, these fields in order and no other line, and this body
pub record HasDraft (text from : List ℕ) (fields : List Field) (bytes : List ℕ) : Type 0 where
  pub from_line : from_line text ≡ from
  pub entries : entries_of text ≡ map field fields
  pub body : unwrap_or (body_of text) [] ≡ bytes

-- the text that is put into a mailbox has the draft's fields and its quoted body
abbrev pub StoredReadsBack : Type 0
StoredReadsBack = (draft : Draft) (user : List ℕ) (m : Moment)
    → IsPrintable m → HasFlatParts draft → HasNoFeed user
    → HasDraft (mbox_text draft user m) (opening_line user m) (draft_fields draft m) (trimmed (quoted draft.body))

-- its From line tells the user, if that is a word, and what the moment's clock shows
abbrev pub OpeningIsRead : Type 0
OpeningIsRead = (user : List ℕ) (m : Moment) → IsPrintable m → IsWord user
    → (sender_of (drop 5 (opening_line user m)) ≡ user)
    × (arrival_of (drop 5 (opening_line user m)) ≡ Some (as_shown m))

-- the message that is sent has the same fields and the draft's body, after any line
abbrev pub SentReadsBack : Type 0
SentReadsBack = (draft : Draft) (line : List ℕ) (m : Moment)
    → IsPrintable m → HasFlatParts draft → HasNoFeed line
    → HasDraft (with_feed line ++ message_text draft m) line (draft_fields draft m) (fed draft.body)

-- the first field of this name has the value, blanks at its ends aside; an empty value has no field
abbrev pub IsFound : List ℕ → List ℕ → List ℕ → Type 0
IsFound text name value =
    option_map unfolded (field_named name text)
    ≡ (if length value == 0 then None else Some (trim_end (trim_start value)))

-- each field of a draft is found in the text
pub record FindsDraft (text : List ℕ) (draft : Draft) (m : Moment) : Type 0 where
  pub date : IsFound text (codes "Date") (date_text m)
  pub from : IsFound text (codes "From") draft.from
  pub to : IsFound text (codes "To") (joined (codes ", ") draft.to)
  pub cc : IsFound text (codes "Cc") (joined (codes ", ") draft.cc)
  pub subject : IsFound text (codes "Subject") draft.subject
  pub reply : IsFound text (codes "In-Reply-To") draft.reply
  pub references : IsFound text (codes "References") (joined (codes " ") draft.references)

abbrev pub FieldsAreFound : Type 0
FieldsAreFound = (draft : Draft) (m : Moment) (text from body : List ℕ) → IsPrintable m → HasFlatParts draft
    → HasDraft text from (draft_fields draft m) body → FindsDraft text draft m

-- no line of the body begins with `From `
abbrev pub IsPlainBody : List ℕ → Type 0
IsPlainBody body = All (λ line. starts_with nat_eq line from_mark ≡ false) (lines_of body)

-- such a body is stored as it is
abbrev pub PlainIsStored : Type 0
PlainIsStored = (body : List ℕ) → IsPlainBody body → trimmed (quoted body) ≡ trimmed body

-- a draft whose parts are flat stays as it is
abbrev pub FlatIsKept : Type 0
FlatIsKept = (draft : Draft) → HasFlatParts draft → flattened draft ≡ draft
