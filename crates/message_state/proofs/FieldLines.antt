-- The parts of a text whose fields of one name are replaced by one.
use Rattle.std.proofs.Common.{◌≡◌, ◌≢◌, ℕ, zero, suc, true, false, ◌==◌, List, [], ◌∷◌, ◌++◌, length, Option, Some, None, codes, refl, sym, ap, ◌∙◌, append_assoc, ⊎_elim, arith}
use Rattle.std.specs.Bool.{if◌then◌else◌}
use Rattle.std.proofs.lemmas.Bool.{cond-true, cond-false, cases_Bool}
use Rattle.mail_text.specs.Ascii.{same_ascii}
use Rattle.mail_text.specs.Lines.{lines_of, HasNoFeed}
use Rattle.mail_headers.specs.Field.{Field, begins_field, field_of}
use Rattle.mail_headers.specs.Header.{Entry, field, other, from_line, header_lines, entries_of, entries_from, body_of}
use Rattle.message_state.specs.Stamp.{is_named, without, field_lines, with_value, body_part}
use Rattle.message_state.specs.StampLaws.{HasTheRest}
use Rattle.message_state.proofs.FoundLemmas.{find_named}
use Rattle.message_state.proofs.NameLemmas.{same_ascii-length, same_ascii-apart}
use Rattle.message_state.proofs.StampLemmas.{after_feeds, after_feeds-append, with_value-parts}
use Rattle.message_state.proofs.EntryLines.{without-head, IsLine, AreLines, HasLines, entries-StandOn, without-HasLines, new_entries, new-StandOn, StandOn-entries, StandOn-bytes, StandOn-lines}
use Rattle.message_state.proofs.TextLines.{text-parts, from_line-apart, header_lines-lines, apart-one}

-- ---- the line of a field

-- the line is a field of this name, and its value stands after a space
pub record IsFieldLine (name value : List ℕ) : Type 0 where
  pub begins : begins_field (name ++ codes ": " ++ value) ≡ true
  pub line : IsLine (name ++ codes ": " ++ value)
  pub named : is_named name (field (field_of (name ++ codes ": " ++ value))) ≡ true
  pub value_is : (field_of (name ++ codes ": " ++ value)).value ≡ 32 ∷ value

-- ---- the parts of a text with a new value

pub record HasNewValue (name value t s : List ℕ) : Type 0 where
  pub lines : List (List ℕ)
  pub are_lines : AreLines lines
  pub written : s ≡ from_line t ++ (after_feeds lines ++ body_part (body_of t))
  pub from_line : from_line s ≡ from_line t
  pub entries : entries_of s ≡ without name (entries_of t) ++ new_entries name value
  pub body : body_of s ≡ body_of t

kept-lines : (name t : List ℕ) → HasLines false (without name (entries_of t))
kept-lines name t = without-HasLines name false (entries_of t) (header_lines t) (entries-StandOn false (header_lines t) (header_lines-lines t))

with_value-lines : (name value t : List ℕ) (kept : HasLines false (without name (entries_of t)))
    → with_value name value t ≡ from_line t ++ (after_feeds (kept.lines ++ field_lines name value) ++ body_part (body_of t))
with_value-lines name value t kept =
    with_value-parts name value t
    ∙ ap (λ (x : List ℕ). ((from_line t ++ x) ++ after_feeds (field_lines name value)) ++ body_part (body_of t)) (StandOn-bytes false (without name (entries_of t)) kept.lines kept.on)
    ∙ ap (λ (x : List ℕ). x ++ body_part (body_of t))
    (append_assoc (from_line t) (after_feeds kept.lines) (after_feeds (field_lines name value))
    ∙ ap (λ (x : List ℕ). from_line t ++ x) (sym (after_feeds-append kept.lines (field_lines name value))))
    ∙ append_assoc (from_line t) (after_feeds (kept.lines ++ field_lines name value)) (body_part (body_of t))

pub with_value-is : (name value t : List ℕ) → IsFieldLine name value → HasNewValue name value t (with_value name value t)
with_value-is name value t is =
    let kept = kept-lines name t in
    let all = kept.lines ++ field_lines name value in
    let es = without name (entries_of t) ++ new_entries name value in
    let on = new-StandOn (without name (entries_of t)) kept.lines name value is.begins is.line kept.on in
    let lines = StandOn-lines false es all on in
    let written = with_value-lines name value t kept in
    let parts = text-parts (with_value name value t) (from_line t) all (body_of t) written (from_line-apart t) lines in
    record {
      lines = all;
      are_lines = lines;
      written = written;
      from_line = parts.from_line;
      entries = ap (entries_from false) parts.header_lines ∙ StandOn-entries false es all on;
      body = parts.body_of;
    }

-- ---- the first field of a name

find-past : (name : List ℕ) (es rest : List Entry) → find_named name (without name es ++ rest) ≡ find_named name rest
find-past name [] rest = refl
find-past name (other l ∷ es) rest = find-past name es rest
find-past name (field f ∷ es) rest =
    ⊎_elim
    (λ is. ap (λ (x : List Entry). find_named name (x ++ rest)) (without-head name true (field f) es is) ∙ find-past name es rest)
    (λ not_is. ap (λ (x : List Entry). find_named name (x ++ rest)) (without-head name false (field f) es not_is) ∙ cond-false _ _ _ not_is ∙ find-past name es rest)
    (cases_Bool (is_named name (field f)))

-- the new field, none if its value is empty
abbrev pub new_field : List ℕ → List ℕ → Option Field
new_field name [] = None
new_field name (b ∷ bs) = Some (field_of (name ++ codes ": " ++ b ∷ bs))

find-new : (name value : List ℕ) → IsFieldLine name value → find_named name (new_entries name value) ≡ new_field name value
find-new name [] is = refl
find-new name (b ∷ bs) is = cond-true _ _ _ is.named

-- the first field of the name is the new one
pub first-new : (name value t s : List ℕ) → IsFieldLine name value → HasNewValue name value t s → find_named name (entries_of s) ≡ new_field name value
first-new name value t s is new = ap (find_named name) new.entries ∙ find-past name (entries_of t) (new_entries name value) ∙ find-new name value is

-- a field isn't of two names of different lengths
other-name : (name another : List ℕ) (f : Field) → (length name == length another) ≡ false → is_named name (field f) ≡ true → is_named another (field f) ≡ false
other-name name another f apart is = same_ascii-apart f.name another (ap (λ (n : ℕ). n == length another) (same_ascii-length f.name name is) ∙ apart)

find-none : (name another value : List ℕ) → (length name == length another) ≡ false → IsFieldLine name value → find_named another (new_entries name value) ≡ None
find-none name another [] apart is = refl
find-none name another (b ∷ bs) apart is = cond-false _ _ _ (other-name name another (field_of (name ++ codes ": " ++ b ∷ bs)) apart is.named)

find-another : (name another : List ℕ) (es rest : List Entry) → (length name == length another) ≡ false → find_named another rest ≡ None
    → find_named another (without name es ++ rest) ≡ find_named another es
find-another name another [] rest apart none = none
find-another name another (other l ∷ es) rest apart none = find-another name another es rest apart none
find-another name another (field f ∷ es) rest apart none =
    ⊎_elim
    (λ is.
    ap (λ (x : List Entry). find_named another (x ++ rest)) (without-head name true (field f) es is)
    ∙ find-another name another es rest apart none
    ∙ sym (cond-false _ _ _ (other-name name another f apart is)))
    (λ not_is.
    ap (λ (x : List Entry). find_named another (x ++ rest)) (without-head name false (field f) es not_is)
    ∙ ap (λ (x : Option Field). if same_ascii f.name another then Some f else x) (find-another name another es rest apart none))
    (cases_Bool (is_named name (field f)))

-- the first field of another name stays
pub first-another : (name another value t s : List ℕ) → (length name == length another) ≡ false → IsFieldLine name value → HasNewValue name value t s
    → find_named another (entries_of s) ≡ find_named another (entries_of t)
first-another name another value t s apart is new =
    ap (find_named another) new.entries ∙ find-another name another (entries_of t) (new_entries name value) apart (find-none name another value apart is)

-- ---- the other entries

without-none : (name value : List ℕ) → IsFieldLine name value → without name (new_entries name value) ≡ []
without-none name [] is = refl
without-none name (b ∷ bs) is = without-head name true (field (field_of (name ++ codes ": " ++ b ∷ bs))) [] is.named

without-twice : (name : List ℕ) (es rest : List Entry) → without name rest ≡ [] → without name (without name es ++ rest) ≡ without name es
without-twice name [] rest none = none
without-twice name (other l ∷ es) rest none = ap (λ (x : List Entry). other l ∷ x) (without-twice name es rest none)
without-twice name (field f ∷ es) rest none =
    let last = λ (x : List Entry). without name (x ++ rest) in
    ⊎_elim
    (λ is. ap last (without-head name true (field f) es is) ∙ without-twice name es rest none ∙ sym (without-head name true (field f) es is))
    (λ not_is.
    ap last (without-head name false (field f) es not_is)
    ∙ without-head name false (field f) (without name es ++ rest) not_is
    ∙ ap (λ (x : List Entry). field f ∷ x) (without-twice name es rest none)
    ∙ sym (without-head name false (field f) es not_is))
    (cases_Bool (is_named name (field f)))

pub rest-kept : (name value t s : List ℕ) → IsFieldLine name value → HasNewValue name value t s → HasTheRest (without name) t s
rest-kept name value t s is new = record {
  from_line = new.from_line;
  entries = ap (without name) new.entries ∙ without-twice name (entries_of t) (new_entries name value) (without-none name value is);
  body = new.body;
}

-- fields of two names can be left out in either order
pub without-swap : (one two : List ℕ) (es : List Entry) → without one (without two es) ≡ without two (without one es)
without-swap one two [] = refl
without-swap one two (e ∷ es) =
    let later = without-swap one two es in
    ⊎_elim
    (λ is_two.
    ap (without one) (without-head two true e es is_two)
    ∙ ⊎_elim
    (λ is_one. later ∙ sym (ap (without two) (without-head one true e es is_one)))
    (λ not_one. later ∙ sym (ap (without two) (without-head one false e es not_one) ∙ without-head two true e (without one es) is_two))
    (cases_Bool (is_named one e)))
    (λ not_two.
    ap (without one) (without-head two false e es not_two)
    ∙ ⊎_elim
    (λ is_one. without-head one true e (without two es) is_one ∙ later ∙ sym (ap (without two) (without-head one true e es is_one)))
    (λ not_one.
    without-head one false e (without two es) not_one
    ∙ ap (λ (x : List Entry). e ∷ x) later
    ∙ sym (ap (without two) (without-head one false e es not_one) ∙ without-head two false e (without one es) not_two))
    (cases_Bool (is_named one e)))
    (cases_Bool (is_named two e))

-- ---- the two fields of a mark

HasNoFeed-append : (a b : List ℕ) → HasNoFeed a → HasNoFeed b → HasNoFeed (a ++ b)
HasNoFeed-append [] b one two = two
HasNoFeed-append (x ∷ a) b one two = apart-cons x (a ++ b) (one 0 0 (omega arith)) (HasNoFeed-append a b (λ k d lt. one (suc k) d (omega arith)) two)
  where
    apart-cons : (x : ℕ) (l : List ℕ) → x ≢ 10 → HasNoFeed l → HasNoFeed (x ∷ l)
    apart-cons x l first later zero d lt = first
    apart-cons x l first later (suc k) d lt = later k d (omega arith)

status-apart : HasNoFeed (codes "Status: ")
unfolding lines_of
status-apart = apart-one (codes "Status: ") refl

x_status-apart : HasNoFeed (codes "X-Status: ")
unfolding lines_of
x_status-apart = apart-one (codes "X-Status: ") refl

pub status-line : (value : List ℕ) → HasNoFeed value → IsFieldLine (codes "Status") value
unfolding field_of
status-line value apart = record { begins = refl; line = record { apart = HasNoFeed-append (codes "Status: ") value status-apart apart; bytes = refl }; named = refl; value_is = refl }

pub x_status-line : (value : List ℕ) → HasNoFeed value → IsFieldLine (codes "X-Status") value
unfolding field_of
x_status-line value apart = record { begins = refl; line = record { apart = HasNoFeed-append (codes "X-Status: ") value x_status-apart apart; bytes = refl }; named = refl; value_is = refl }
