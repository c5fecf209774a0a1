-- A text has a row and no other, since a value has one list of addresses or a bad piece.
use Rattle.std.proofs.Common.{◌≡◌, ◌⊎◌, ℕ, ◌+◌, length, List, [], Option, Some, None, slice_get, refl, sym, ap, ◌∙◌, inl, inr, codes}
use Rattle.mail_dates.specs.declared.moment.Moment.{Moment}
use Rattle.mail_headers.specs.Field.{Field, unfolded}
use Rattle.mail_headers.specs.Header.{field_named}
use Rattle.mail_dates.specs.FromLines.{sender_of}
use Rattle.mail_addresses.specs.declared.address.Address.{Address}
use Rattle.mail_addresses.specs.Listing.{Reads, IsFault, IsFirstAddress}
use Rattle.message_state.specs.declared.mark.Mark.{Mark}
use Rattle.message_state.specs.declared.row.Row.{Row}
use Rattle.message_state.specs.Ids.{first_id}
use Rattle.message_state.specs.RowTexts.{Texts}
use Rattle.mail_dates.specs.Messages.{after_from, moment_of}
use Rattle.message_state.specs.Rows.{IsFirstOf, AreTextsOf, IsRow, spec_or, name_or, value_or_empty, ids_named}
use Rattle.message_state.proofs.TextsLemmas.{texts-same}
use Rattle.message_state.specs.Status.{mark_of}

-- a value has one list of addresses, or a bad piece
pub record HasOneReading : Type 0 where
  pub list : (value : List ℕ) (a b : List Address) → Reads value a → Reads value b → a ≡ b
  pub either : (value : List ℕ) (list : List Address) (at : ℕ) → Reads value list → IsFault value at → ⊥

first-one : HasOneReading → (value : List ℕ) (a b : Option Address) → IsFirstAddress value a → IsFirstAddress value b → a ≡ b
first-one one value a b (inl x) (inl y) = x.2 ∙ ap (λ (list : List Address). slice_get list 0) (one.list value x.0 y.0 x.1 y.1) ∙ sym y.2
first-one one value a b (inl x) (inr y) = absurd (one.either value x.0 y.0 x.1 y.1)
first-one one value a b (inr x) (inl y) = absurd (one.either value y.0 x.0 y.1 x.1)
first-one one value a b (inr x) (inr y) = x.2 ∙ sym y.2

first_of-one : HasOneReading → (f : Option Field) (a b : Option Address) → IsFirstOf f a → IsFirstOf f b → a ≡ b
first_of-one one None a b x y = x ∙ sym y
first_of-one one (Some f) a b x y = first-one one (unfolded f) a b x y

row-same : (r s : Row) → r.mark ≡ s.mark → r.texts ≡ s.texts → r.references ≡ s.references → r.reply ≡ s.reply → r.moment ≡ s.moment → r.size ≡ s.size → r ≡ s
row-same r s mark texts references reply moment size =
    let made = λ (m : Mark) (t : Texts) (a : List (List ℕ)) (b : List (List ℕ)) (w : Option Moment) (k : ℕ). let row : Row =
    record { mark = m; texts = t; references = a; reply = b; moment = w; size = k } in row in
    ap (λ (x : Mark). made x r.texts r.references r.reply r.moment r.size) mark
    ∙ ap (λ (x : Texts). made s.mark x r.references r.reply r.moment r.size) texts
    ∙ ap (λ (x : List (List ℕ)). made s.mark s.texts x r.reply r.moment r.size) references
    ∙ ap (λ (x : List (List ℕ)). made s.mark s.texts s.references x r.moment r.size) reply
    ∙ ap (λ (x : Option Moment). made s.mark s.texts s.references s.reply x r.size) moment
    ∙ ap (λ (x : ℕ). made s.mark s.texts s.references s.reply s.moment x) size

one-texts : HasOneReading → (t : List ℕ) (x y : Texts) → AreTextsOf t x → AreTextsOf t y → x ≡ y
one-texts one t x y p q =
    let sender = sender_of (after_from t) in
    let author = first_of-one one (field_named (codes "From") t) p.author.0 q.author.0 p.author.1 q.author.1 in
    let to = first_of-one one (field_named (codes "To") t) p.to.0 q.to.0 p.to.1 q.to.1 in
    texts-same x y
    (p.subject ∙ sym q.subject)
    (p.author.2 ∙ ap (spec_or sender) author ∙ sym q.author.2)
    (p.author.3 ∙ ap (name_or sender) author ∙ sym q.author.3)
    (p.to.2 ∙ ap (spec_or []) to ∙ sym q.to.2)
    (p.own_id ∙ sym q.own_id)

pub one-row : HasOneReading → (t : List ℕ) (r s : Row) → IsRow t r → IsRow t s → r ≡ s
one-row one t r s x y =
    row-same r s
    (x.mark ∙ sym y.mark)
    (one-texts one t r.texts s.texts x.texts y.texts)
    (x.references ∙ sym y.references)
    (x.reply ∙ sym y.reply)
    (x.moment ∙ sym y.moment)
    (x.size ∙ sym y.size)

-- ---- some row

-- each value has a list of addresses, or a bad piece
abbrev pub EachIsRead : Type 0
EachIsRead = (value : List ℕ) → ((list : List Address) × Reads value list) ⊎ ((at : ℕ) × IsFault value at)

first-some : EachIsRead → (value : List ℕ) → (found : Option Address) × IsFirstAddress value found
first-some each value =
    elim (each value) [
      | inl list ↦ (slice_get list.0 0, inl (list.0, list.1, refl))
      | inr fault ↦ (None, inr (fault.0, fault.1, refl))
    ]

first_of-some : EachIsRead → (f : Option Field) → (found : Option Address) × IsFirstOf f found
first_of-some each None = (None, refl)
first_of-some each (Some f) = first-some each (unfolded f)

pub some-row : EachIsRead → (t : List ℕ) → (row : Row) × IsRow t row
some-row each t =
    let sender = sender_of (after_from t) in
    let from = first_of-some each (field_named (codes "From") t) in
    let to = first_of-some each (field_named (codes "To") t) in
    let texts : Texts = record {
      subject = value_or_empty (field_named (codes "Subject") t);
      author = spec_or sender from.0;
      shown_author = name_or sender from.0;
      to = spec_or [] to.0;
      own_id = first_id (ids_named (codes "Message-ID") t);
    } in
    let row : Row = record {
      mark = mark_of t;
      texts = texts;
      references = ids_named (codes "References") t;
      reply = ids_named (codes "In-Reply-To") t;
      moment = moment_of t;
      size = length t + 1;
    } in (
      row,
      record {
        mark = refl;
        texts = record { subject = refl; author = (from.0, from.1, refl, refl); to = (to.0, to.1, refl); own_id = refl };
        references = refl;
        reply = refl;
        moment = refl;
        size = refl;
      },
    )
