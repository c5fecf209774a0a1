-- The fields of a draft as lines: each stands on one line, and is read there again.
use Rattle.std.proofs.Common.{◌≡◌, ◌≢◌, ℕ, ◌≤◌, Bool, true, false, ◌==◌, ◌&&◌, List, [], ◌∷◌, ◌++◌, length, map, Option, codes, refl, sym, ap, ◌∙◌, subst, arith, ⊎_elim, append_assoc, append-nil}
use Rattle.std.specs.Prelude.{nat_eq, nat_le, All}
use Rattle.std.specs.List.{starts_with, flat_map, take_while, join_with_byte, filter_map, list_all, AllByRecursion}
use Rattle.std.proofs.lemmas.Bool.{cond-true, cond-false, cases_Bool, and_parts, leb-true, eqb-false}
use Rattle.std.proofs.lemmas.Grind.{flat_map-append}
use Rattle.std.proofs.lemmas.List.Elements.{All-nil, All-cons, All-head, All-tail, All-append, recursion_from_All}
use Rattle.std.proofs.lemmas.List.Folds.{flat_map-map}
use Rattle.std.proofs.lemmas.List.Sums.{take_while-cons}
use Rattle.mail_text.specs.Lines.{lines_of, with_feed, HasNoFeed}
use Rattle.mail_headers.specs.Field.{Field, begins_field, is_folded, field_of, field_bytes}
use Rattle.mail_headers.specs.Header.{Entry, field, field_in, has_bytes, from_line, entries_from, entries_of, body_of}
use Rattle.mail_headers.proofs.FieldLemmas.{is_folded-begins, entries_from-field, entries_from-nil}
use Rattle.mail_dates.specs.declared.moment.Moment.{Moment}
use Rattle.mail_dates.specs.Clock.{IsPrintable}
use Rattle.mail_dates.specs.Printed.{date_text}
use Rattle.mail_dates.specs.Laws.{IsPlain}
use Rattle.mail_dates.proofs.PlainText.{date_is_plain}
use Rattle.mbox_scan.specs.Mailbox.{from_mark}
use Rattle.message_state.specs.Stamp.{body_part}
use Rattle.message_state.proofs.StampLemmas.{after_feeds}
use Rattle.message_state.proofs.EntryLines.{IsLine, AreLines}
use Rattle.message_state.proofs.TextLines.{text-parts, apart-one}
use Rattle.draft_text.specs.declared.draft.Draft.{Draft}
use Rattle.draft_text.specs.Texts.{joined, spaced_field, filled, draft_values, all_filled, draft_fields, field_lines}
use Rattle.draft_text.specs.DraftLaws.{HasFlatParts}

-- ---- parts without a line feed

pub plain-apart : (t : List ℕ) → IsPlain t → HasNoFeed t
plain-apart [] plain = All-nil (λ b. b ≢ 10)
plain-apart (b ∷ bs) plain =
    let parts = and_parts (nat_le 32 b && nat_le b 126) (list_all (λ x. nat_le 32 x && nat_le x 126) bs) plain in
    let low : 32 ≤ b = leb-true 32 b (and_parts (nat_le 32 b) (nat_le b 126) parts.0).0 in
    let other : b ≢ 10 = λ e. omega arith in
    All-cons (λ x. x ≢ 10) b bs other (plain-apart bs parts.1)

behind-apart : (separator : List ℕ) (ts : List (List ℕ)) → HasNoFeed separator → All HasNoFeed ts → HasNoFeed (flat_map (λ t. separator ++ t) ts)
behind-apart separator [] flat all = All-nil (λ b. b ≢ 10)
behind-apart separator (t ∷ ts) flat all =
    All-append (λ b. b ≢ 10) (separator ++ t) (flat_map (λ u. separator ++ u) ts)
    (All-append (λ b. b ≢ 10) separator t flat (All-head HasNoFeed t ts all))
    (behind-apart separator ts flat (All-tail HasNoFeed t ts all))

pub joined-apart : (separator : List ℕ) (ts : List (List ℕ)) → HasNoFeed separator → All HasNoFeed ts → HasNoFeed (joined separator ts)
joined-apart separator [] flat all = All-nil (λ b. b ≢ 10)
joined-apart separator (t ∷ ts) flat all =
    All-append (λ b. b ≢ 10) t (flat_map (λ u. separator ++ u) ts) (All-head HasNoFeed t ts all) (behind-apart separator ts flat (All-tail HasNoFeed t ts all))

comma-apart : HasNoFeed (codes ", ")
unfolding lines_of
comma-apart = apart-one (codes ", ") refl

space-apart : HasNoFeed (codes " ")
unfolding lines_of
space-apart = apart-one (codes " ") refl

pub names-apart : (ts : List (List ℕ)) → All HasNoFeed ts → HasNoFeed (joined (codes ", ") ts)
names-apart ts all = joined-apart (codes ", ") ts comma-apart all

pub ids-apart : (ts : List (List ℕ)) → All HasNoFeed ts → HasNoFeed (joined (codes " ") ts)
ids-apart ts all = joined-apart (codes " ") ts space-apart all

-- ---- fields on a line of their own

-- what begins a line of a field, whatever its value
record IsName (name : List ℕ) : Type 0 where
  begins : (v : List ℕ) → begins_field (name ++ 58 ∷ 32 ∷ v) ≡ true
  is : (v : List ℕ) → field_of (name ++ 58 ∷ 32 ∷ v) ≡ spaced_field name v
  bytes : (v : List ℕ) → has_bytes (name ++ 58 ∷ 32 ∷ v) ≡ true
  other : (v : List ℕ) → starts_with nat_eq (name ++ 58 ∷ 32 ∷ v) from_mark ≡ false
  apart : HasNoFeed name

date-name : IsName (codes "Date")
unfolding field_of lines_of
date-name = record { begins = λ v. refl; is = λ v. refl; bytes = λ v. refl; other = λ v. refl; apart = apart-one (codes "Date") refl }

from-name : IsName (codes "From")
unfolding field_of lines_of
from-name = record { begins = λ v. refl; is = λ v. refl; bytes = λ v. refl; other = λ v. refl; apart = apart-one (codes "From") refl }

to-name : IsName (codes "To")
unfolding field_of lines_of
to-name = record { begins = λ v. refl; is = λ v. refl; bytes = λ v. refl; other = λ v. refl; apart = apart-one (codes "To") refl }

cc-name : IsName (codes "Cc")
unfolding field_of lines_of
cc-name = record { begins = λ v. refl; is = λ v. refl; bytes = λ v. refl; other = λ v. refl; apart = apart-one (codes "Cc") refl }

subject-name : IsName (codes "Subject")
unfolding field_of lines_of
subject-name = record { begins = λ v. refl; is = λ v. refl; bytes = λ v. refl; other = λ v. refl; apart = apart-one (codes "Subject") refl }

reply-name : IsName (codes "In-Reply-To")
unfolding field_of lines_of
reply-name = record { begins = λ v. refl; is = λ v. refl; bytes = λ v. refl; other = λ v. refl; apart = apart-one (codes "In-Reply-To") refl }

references-name : IsName (codes "References")
unfolding field_of lines_of
references-name = record { begins = λ v. refl; is = λ v. refl; bytes = λ v. refl; other = λ v. refl; apart = apart-one (codes "References") refl }

-- the field stands on one line, as which it is read again
pub record StandsAlone (f : Field) : Type 0 where
  pub begins : begins_field (field_bytes f) ≡ true
  pub is : field_of (field_bytes f) ≡ f
  pub line : IsLine (field_bytes f)
  pub other : starts_with nat_eq (field_bytes f) from_mark ≡ false

field-alone : (name value : List ℕ) → IsName name → HasNoFeed value → StandsAlone (spaced_field name value)
field-alone name value named flat =
    let space : 32 ≢ 10 = eqb-false 32 10 refl in
    let colon : 58 ≢ 10 = eqb-false 58 10 refl in
    record {
      begins = named.begins value;
      is = named.is value;
      line = record {
        apart = All-append (λ b. b ≢ 10) name (58 ∷ 32 ∷ value) named.apart (All-cons (λ b. b ≢ 10) 58 (32 ∷ value) colon (All-cons (λ b. b ≢ 10) 32 value space flat));
        bytes = named.bytes value;
      };
      other = named.other value;
    }

filled-alone : (name value : List ℕ) → IsName name → HasNoFeed value → All StandsAlone (filled name value)
filled-alone name value named flat =
    ⊎_elim
    (λ none. subst (All StandsAlone) (sym (cond-true _ _ _ none)) (All-nil StandsAlone))
    (λ some. subst (All StandsAlone) (sym (cond-false _ _ _ some)) (All-cons StandsAlone (spaced_field name value) [] (field-alone name value named flat) (All-nil StandsAlone)))
    (cases_Bool (length value == 0))

-- the name is one of a field, and the value holds no line feed
record IsValue (v : List ℕ × List ℕ) : Type 0 where
  named : IsName v.0
  flat : HasNoFeed v.1

all-alone : (vs : List (List ℕ × List ℕ)) → AllByRecursion IsValue vs → All StandsAlone (all_filled vs)
all-alone [] all = All-nil StandsAlone
all-alone (v ∷ vs) all = All-append StandsAlone (filled v.0 v.1) (all_filled vs) (filled-alone v.0 v.1 all.0.named all.0.flat) (all-alone vs all.1)

values-are : (draft : Draft) (m : Moment) → IsPrintable m → HasFlatParts draft → AllByRecursion IsValue (draft_values draft m)
values-are draft m range flat = (
  record { named = date-name; flat = plain-apart (date_text m) (date_is_plain m range).0 },
  (
    record { named = from-name; flat = flat.from },
    (
      record { named = to-name; flat = names-apart draft.to flat.to },
      (
        record { named = cc-name; flat = names-apart draft.cc flat.cc },
        (
          record { named = subject-name; flat = flat.subject },
          (
            record { named = reply-name; flat = flat.reply },
            (
              record { named = references-name; flat = ids-apart draft.references flat.references },
              tt,
            ),
          ),
        ),
      ),
    ),
  ),
)

pub draft-alone : (draft : Draft) (m : Moment) → IsPrintable m → HasFlatParts draft → AllByRecursion StandsAlone (draft_fields draft m)
unfolding draft_fields
draft-alone draft m range flat = recursion_from_All StandsAlone (draft_fields draft m) (all-alone (draft_values draft m) (values-are draft m range flat))

-- ---- the lines of fields

pub lines-are : (fs : List Field) → AllByRecursion StandsAlone fs → AreLines (map field_bytes fs)
lines-are [] all = tt
lines-are (f ∷ fs) all = (all.0.line, lines-are fs all.1)

lines-unfolded : (fs : List Field) → AllByRecursion StandsAlone fs → take_while is_folded (map field_bytes fs) ≡ []
lines-unfolded [] all = refl
lines-unfolded (f ∷ fs) all =
    take_while-cons is_folded (field_bytes f) (map field_bytes fs) ∙ cond-false _ _ _ (is_folded-begins (field_bytes f) all.0.begins)

pub lines-entries : (within : Bool) (fs : List Field) → AllByRecursion StandsAlone fs → entries_from within (map field_bytes fs) ≡ map field fs
lines-entries within [] all = entries_from-nil within
lines-entries within (f ∷ fs) all =
    entries_from-field within (field_bytes f) (map field_bytes fs) all.0.begins
    ∙ ap (λ (x : List (List ℕ)). field (field_of (join_with_byte 10 (field_bytes f ∷ x))) ∷ entries_from true (map field_bytes fs)) (lines-unfolded fs all.1)
    ∙ ap (λ (g : Field). field g ∷ entries_from true (map field_bytes fs)) all.0.is
    ∙ ap (λ (x : List Entry). field f ∷ x) (lines-entries true fs all.1)

pub entries-fields : (fs : List Field) → filter_map field_in (map field fs) ≡ fs
entries-fields [] = refl
entries-fields (f ∷ fs) = ap (λ (x : List Field). f ∷ x) (entries-fields fs)

pub field_lines-are : (fs : List Field) → field_lines fs ≡ flat_map with_feed (map field_bytes fs)
field_lines-are fs = sym (flat_map-map with_feed field_bytes fs)

-- fields that are put one after another
pub pushed-fields : (text : List ℕ) (a b c d e f g : List Field)
    → ((((((text ++ field_lines a) ++ field_lines b) ++ field_lines c) ++ field_lines d) ++ field_lines e) ++ field_lines f) ++ field_lines g
    ≡ text ++ field_lines (a ++ (b ++ (c ++ (d ++ (e ++ (f ++ (g ++ [])))))))
pushed-fields text a b c d e f g = simp (flat_map-append, append_assoc, append-nil)

-- ---- texts of a line, lines of a header and a body

-- each line with its line feed: the first, the later ones each after a line feed, and a line feed
feeds-moved : (l : List ℕ) (ls : List (List ℕ)) → flat_map with_feed (l ∷ ls) ≡ (l ++ after_feeds ls) ++ 10 ∷ []
feeds-moved l [] = append-nil (l ++ 10 ∷ []) ∙ ap (λ (x : List ℕ). x ++ 10 ∷ []) (sym (append-nil l))
feeds-moved l (m ∷ ms) =
    ap (λ (x : List ℕ). (l ++ 10 ∷ []) ++ x) (feeds-moved m ms)
    ∙ append_assoc l (10 ∷ []) ((m ++ after_feeds ms) ++ 10 ∷ [])
    ∙ sym (append_assoc l (10 ∷ (m ++ after_feeds ms)) (10 ∷ []))

pub whole-is : (line : List ℕ) (fs : List Field) (rest : List ℕ) → with_feed line ++ field_lines fs ++ 10 ∷ rest ≡ (line ++ after_feeds (map field_bytes fs)) ++ 10 ∷ 10 ∷ rest
whole-is line fs rest =
    let h = line ++ after_feeds (map field_bytes fs) in
    ap (λ (x : List ℕ). (with_feed line ++ x) ++ 10 ∷ rest) (field_lines-are fs)
    ∙ ap (λ (x : List ℕ). x ++ 10 ∷ rest) (feeds-moved line (map field_bytes fs))
    ∙ append_assoc h (10 ∷ []) (10 ∷ rest)

-- what is read of such a text
pub record ReadsAs (t line : List ℕ) (fs : List Field) (part : Option (List ℕ)) : Type 0 where
  pub from_line : from_line t ≡ line
  pub entries : entries_of t ≡ map field fs
  pub body : body_of t ≡ part

pub reads-as : (t line : List ℕ) (fs : List Field) (body : Option (List ℕ)) → t ≡ (line ++ after_feeds (map field_bytes fs)) ++ body_part body
    → HasNoFeed line → AllByRecursion StandsAlone fs → ReadsAs t line fs body
reads-as t line fs body is flat all =
    let ls = map field_bytes fs in
    let parts = text-parts t line ls body (is ∙ append_assoc line (after_feeds ls) (body_part body)) flat (lines-are fs all) in
    record { from_line = parts.from_line; entries = ap (entries_from false) parts.header_lines ∙ lines-entries false fs all; body = parts.body_of }
