-- What a summary, a selection and a view know of a message.
use Rattle.std.specs.Prelude.{◌≡◌, ℕ, ◌+◌, ◌==◌, List, [], length, Option, Some, None, codes, if◌then◌else◌}
use Rattle.std.specs.Option.{option_map, unwrap_or}
use Rattle.mail_headers.specs.Field.{Field, unfolded}
use Rattle.mail_headers.specs.Header.{field_named}
use Rattle.mail_addresses.specs.declared.address.Address.{Address}
use Rattle.mail_addresses.specs.Listing.{IsFirstAddress}
use Rattle.mail_dates.specs.FromLines.{sender_of}
use Rattle.mail_dates.specs.Messages.{after_from, moment_of}
use Rattle.message_state.specs.declared.row.Row.{Row}
use Rattle.message_state.specs.Status.{mark_of}
use Rattle.message_state.specs.Ids.{ids_of, first_id}
use Rattle.message_state.specs.RowTexts.{Texts}

-- the unfolded value of a field, empty if there is none
abbrev pub value_or_empty : Option Field → List ℕ
value_or_empty field = unwrap_or (option_map unfolded field) []

-- the first address of a value, if there is a value
abbrev pub IsFirstIn : Option (List ℕ) → Option Address → Type 0
IsFirstIn None found = found ≡ None
IsFirstIn (Some value) found = IsFirstAddress value found

-- the first address of a field, if there is a field
abbrev pub IsFirstOf : Option Field → Option Address → Type 0
IsFirstOf field found = IsFirstIn (option_map unfolded field) found

-- the bare address, or what stands in its place
abbrev pub spec_or : List ℕ → Option Address → List ℕ
spec_or other None = other
spec_or other (Some a) = a.spec

-- the display name if it isn't empty, else the bare address
abbrev pub display_name : Address → List ℕ
display_name a = if length a.name == 0 then a.spec else a.name

-- the display name of an address, or what stands in its place
abbrev pub name_or : List ℕ → Option Address → List ℕ
name_or other None = other
name_or other (Some a) = display_name a

-- the author is the first address of the field, else the sender, and is shown by the display name
abbrev pub HasAuthor : Option Field → List ℕ → Texts → Type 0
HasAuthor field sender texts = (found : Option Address) × IsFirstOf field found × (texts.author ≡ spec_or sender found) × (texts.shown_author ≡ name_or sender found)

-- the addressee is the first address of the field, or empty
abbrev pub HasAddressee : Option Field → Texts → Type 0
HasAddressee field texts = (found : Option Address) × IsFirstOf field found × (texts.to ≡ spec_or [] found)

-- the ids of a field
abbrev pub ids_named : List ℕ → List ℕ → List (List ℕ)
ids_named name t = ids_of (value_or_empty (field_named name t))

-- the texts that a message's first fields `Subject`, `From`, `To` and `Message-ID` give, with its From line after `From `: the
-- subject, the author, the addressee and the own id (RFC 5322, section 3.6.4)
pub record AreTextsIn (title sender addressee message_id : Option Field) (line : List ℕ) (texts : Texts) : Type 0 where
  pub subject : texts.subject ≡ value_or_empty title
  pub author : HasAuthor sender (sender_of line) texts
  pub to : HasAddressee addressee texts
  pub own_id : texts.own_id ≡ first_id (ids_of (value_or_empty message_id))

abbrev pub AreTextsOf : List ℕ → Texts → Type 0
AreTextsOf t texts = AreTextsIn (field_named (codes "Subject") t) (field_named (codes "From") t) (field_named (codes "To") t) (field_named (codes "Message-ID") t) (after_from t) texts

-- what is known of a message of this text; the ids are those of the messages that it answers (RFC 5322, section 3.6.4)
pub record IsRow (t : List ℕ) (row : Row) : Type 0 where
  pub mark : row.mark ≡ mark_of t
  pub texts : AreTextsOf t row.texts
  pub references : row.references ≡ ids_named (codes "References") t
  pub reply : row.reply ≡ ids_named (codes "In-Reply-To") t
  pub moment : row.moment ≡ moment_of t
  pub size : row.size ≡ length t + 1
