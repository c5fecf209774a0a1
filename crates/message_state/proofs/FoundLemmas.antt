-- The first field of a name, found while the entries are walked over.
use Rattle.std.proofs.Common.{◌≡◌, ℕ, Bool, true, false, List, [], ◌∷◌, Option, Some, None, codes, refl, sym, ap, ◌∙◌}
use Rattle.std.specs.Bool.{if◌then◌else◌}
use Rattle.std.specs.Option.{option_or}
use Rattle.std.specs.List.{find, filter_map}
use Rattle.mail_text.specs.Ascii.{same_ascii}
use Rattle.mail_headers.specs.Field.{Field}
use Rattle.mail_headers.specs.Header.{Entry, field, other, field_in, field_named, entries_of}
use Rattle.message_state.specs.declared.fields.RowFields.{RowFields}
use Rattle.message_state.specs.Fields.{or_entry, AreFieldsOf, AreWithEntry}

-- the first field of this name among entries
abbrev pub find_named : List ℕ → List Entry → Option Field
find_named name es = find (λ f. same_ascii f.name name) (filter_map field_in es)

-- the field that was found before, else the first of this name among the entries that are left
abbrev pub found_with : List ℕ → Option Field → List Entry → Option Field
found_with name found es = option_or found (find_named name es)

or_later : (b : Bool) (f : Field) (later : Option Field) → option_or (if b then Some f else None) later ≡ (if b then Some f else later)
or_later true f later = refl
or_later false f later = refl

found_step : (name : List ℕ) (found : Option Field) (e : Entry) (es : List Entry) → found_with name (or_entry name found e) es ≡ found_with name found (e ∷ es)
found_step name (Some f) e es = refl
found_step name None (other l) es = refl
found_step name None (field f) es = or_later (same_ascii f.name name) f (find_named name es)

found_last : (found : Option Field) → option_or found None ≡ found
found_last (Some f) = refl
found_last None = refl

-- what was found, with what is left, makes the fields of a text
pub record AreFound (t : List ℕ) (es : List Entry) (fields : RowFields) : Type 0 where
  pub status : found_with (codes "Status") fields.status es ≡ field_named (codes "Status") t
  pub x_status : found_with (codes "X-Status") fields.x_status es ≡ field_named (codes "X-Status") t
  pub subject : found_with (codes "Subject") fields.subject es ≡ field_named (codes "Subject") t
  pub from : found_with (codes "From") fields.from es ≡ field_named (codes "From") t
  pub to : found_with (codes "To") fields.to es ≡ field_named (codes "To") t
  pub date : found_with (codes "Date") fields.date es ≡ field_named (codes "Date") t
  pub message_id : found_with (codes "Message-ID") fields.message_id es ≡ field_named (codes "Message-ID") t
  pub references : found_with (codes "References") fields.references es ≡ field_named (codes "References") t
  pub reply : found_with (codes "In-Reply-To") fields.reply es ≡ field_named (codes "In-Reply-To") t

-- nothing was found before the first entry
pub are_found_first : (t : List ℕ) (es : List Entry) → es ≡ entries_of t
    → AreFound t es (record { status = None; x_status = None; subject = None; from = None; to = None; date = None; message_id = None; references = None; reply = None })
are_found_first t es is = record {
  status = ap (find_named (codes "Status")) is;
  x_status = ap (find_named (codes "X-Status")) is;
  subject = ap (find_named (codes "Subject")) is;
  from = ap (find_named (codes "From")) is;
  to = ap (find_named (codes "To")) is;
  date = ap (find_named (codes "Date")) is;
  message_id = ap (find_named (codes "Message-ID")) is;
  references = ap (find_named (codes "References")) is;
  reply = ap (find_named (codes "In-Reply-To")) is;
}

one_step : (t name : List ℕ) (old new : Option Field) (e : Entry) (es : List Entry) → new ≡ or_entry name old e
    → found_with name old (e ∷ es) ≡ field_named name t → found_with name new es ≡ field_named name t
one_step t name old new e es is before = ap (λ (found : Option Field). found_with name found es) is ∙ found_step name old e es ∙ before

pub are_found_step : (t : List ℕ) (old new : RowFields) (e : Entry) (es : List Entry) → AreWithEntry old e new → AreFound t (e ∷ es) old → AreFound t es new
are_found_step t old new e es with_e before = record {
  status = one_step t (codes "Status") old.status new.status e es with_e.status before.status;
  x_status = one_step t (codes "X-Status") old.x_status new.x_status e es with_e.x_status before.x_status;
  subject = one_step t (codes "Subject") old.subject new.subject e es with_e.subject before.subject;
  from = one_step t (codes "From") old.from new.from e es with_e.from before.from;
  to = one_step t (codes "To") old.to new.to e es with_e.to before.to;
  date = one_step t (codes "Date") old.date new.date e es with_e.date before.date;
  message_id = one_step t (codes "Message-ID") old.message_id new.message_id e es with_e.message_id before.message_id;
  references = one_step t (codes "References") old.references new.references e es with_e.references before.references;
  reply = one_step t (codes "In-Reply-To") old.reply new.reply e es with_e.reply before.reply;
}

pub are_found_last : (t : List ℕ) (fields : RowFields) → AreFound t [] fields → AreFieldsOf t fields
are_found_last t fields before = record {
  status = sym (found_last fields.status) ∙ before.status;
  x_status = sym (found_last fields.x_status) ∙ before.x_status;
  subject = sym (found_last fields.subject) ∙ before.subject;
  from = sym (found_last fields.from) ∙ before.from;
  to = sym (found_last fields.to) ∙ before.to;
  date = sym (found_last fields.date) ∙ before.date;
  message_id = sym (found_last fields.message_id) ∙ before.message_id;
  references = sym (found_last fields.references) ∙ before.references;
  reply = sym (found_last fields.reply) ∙ before.reply;
}
