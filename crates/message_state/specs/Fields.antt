-- The fields that a row is made from, found in one walk over the entries of a header.
use Rattle.std.specs.Prelude.{◌≡◌, ℕ, List, length, Option, Some, None, codes, if◌then◌else◌}
use Rattle.std.specs.Option.{option_or}
use Rattle.mail_text.specs.Ascii.{same_ascii}
use Rattle.mail_headers.specs.Field.{Field}
use Rattle.mail_headers.specs.Header.{Entry, field, other, field_in, field_named}
use Rattle.message_state.specs.declared.fields.RowFields.{RowFields}

-- the field, if it has this name
abbrev pub if_named : List ℕ → Option Field → Option Field
if_named name None = None
if_named name (Some f) = if same_ascii f.name name then Some f else None

-- the field that was found before, else the entry if it is a field of this name
abbrev pub or_entry : List ℕ → Option Field → Entry → Option Field
or_entry name found e = option_or found (if_named name (field_in e))

-- how many bytes the name of an entry has, 0 if it is no field
abbrev pub name_length : Entry → ℕ
name_length (field f) = length f.name
name_length (other line) = 0

-- each is the first field of its name
pub record AreFieldsOf (t : List ℕ) (fields : RowFields) : Type 0 where
  pub status : fields.status ≡ field_named (codes "Status") t
  pub x_status : fields.x_status ≡ field_named (codes "X-Status") t
  pub subject : fields.subject ≡ field_named (codes "Subject") t
  pub from : fields.from ≡ field_named (codes "From") t
  pub to : fields.to ≡ field_named (codes "To") t
  pub date : fields.date ≡ field_named (codes "Date") t
  pub message_id : fields.message_id ≡ field_named (codes "Message-ID") t
  pub references : fields.references ≡ field_named (codes "References") t
  pub reply : fields.reply ≡ field_named (codes "In-Reply-To") t

-- each is the field that was found before, else the entry if it has that field's name
pub record AreWithEntry (old : RowFields) (e : Entry) (fields : RowFields) : Type 0 where
  pub status : fields.status ≡ or_entry (codes "Status") old.status e
  pub x_status : fields.x_status ≡ or_entry (codes "X-Status") old.x_status e
  pub subject : fields.subject ≡ or_entry (codes "Subject") old.subject e
  pub from : fields.from ≡ or_entry (codes "From") old.from e
  pub to : fields.to ≡ or_entry (codes "To") old.to e
  pub date : fields.date ≡ or_entry (codes "Date") old.date e
  pub message_id : fields.message_id ≡ or_entry (codes "Message-ID") old.message_id e
  pub references : fields.references ≡ or_entry (codes "References") old.references e
  pub reply : fields.reply ≡ or_entry (codes "In-Reply-To") old.reply e
