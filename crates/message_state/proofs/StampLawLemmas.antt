-- What the fields `Status` and `X-Status` of a stamped text say, and what it keeps.
use Rattle.std.proofs.Common.{◌≡◌, ℕ, Bool, true, false, List, [], ◌∷◌, Option, Some, None, codes, refl, sym, ap, ◌∙◌, subst, ⊎_elim}
use Rattle.std.specs.Bool.{if◌then◌else◌}
use Rattle.std.specs.Option.{option_map}
use Rattle.std.proofs.lemmas.Bool.{cond-true, cond-false, cases_Bool, false≢true, and_parts, and_from}
use Rattle.std.proofs.lemmas.Slice.Eq.{bytes_eq-Decides}
use Rattle.mail_text.specs.Lines.{lines_of, HasNoFeed}
use Rattle.mail_headers.specs.Field.{Field, field_of, unfolded, trim_start, trim_end}
use Rattle.mail_headers.specs.Header.{from_line, entries_of, body_of}
use Rattle.message_state.specs.declared.mark.Flags.{Flags}
use Rattle.message_state.specs.declared.mark.Mark.{Mark}
use Rattle.message_state.specs.declared.mark.State.TheVariants.{New, Unread, Read}
use Rattle.message_state.specs.Status.{status_of, x_status_of, raw_value, has_letter, flags_in, flags_of, mark_of}
use Rattle.message_state.specs.Stamp.{without, with_value, letters_of, has_letters, with_letters, same_flags, flags_value, with_flags, stamped, is_stamped}
use Rattle.message_state.specs.StampLaws.{letters_in, HasTheRest, IsLeftExactly, without_marks, foreign_letters}
use Rattle.message_state.proofs.FieldLines.{IsFieldLine, HasNewValue, with_value-is, new_field, first-new, first-another, rest-kept, without-swap, status-line, x_status-line}
use Rattle.message_state.proofs.TextLines.{apart-one}
use Rattle.message_state.proofs.ValueLemmas.{foreign_in, foreign-kept, letter-unfolded, flags-read, same_flags-is, same_flags-of, value-apart}

-- ---- the field of a mark's letters

-- the letters have no line feed, and a field with them reads as them
record AreLetters (letters : List ℕ) : Type 0 where
  apart : HasNoFeed letters
  reads : option_map unfolded (new_field (codes "Status") letters) ≡ Some letters

seen-letters : AreLetters (codes "RO")
unfolding lines_of field_of trim_start trim_end
seen-letters = record { apart = apart-one (codes "RO") refl; reads = refl }

unseen-letters : AreLetters (codes "O")
unfolding lines_of field_of trim_start trim_end
unseen-letters = record { apart = apart-one (codes "O") refl; reads = refl }

letters-by : (seen : Bool) → AreLetters (if seen then codes "RO" else codes "O")
letters-by true = seen-letters
letters-by false = unseen-letters

letters-are : (m : Mark) → AreLetters (letters_of m)
letters-are m = letters-by m.seen

letters-line : (m : Mark) → IsFieldLine (codes "Status") (letters_of m)
letters-line m = status-line (letters_of m) (letters-are m).apart

pub letters-new : (m : Mark) (t : List ℕ) → HasNewValue (codes "Status") (letters_of m) t (with_value (codes "Status") (letters_of m) t)
letters-new m t = with_value-is (codes "Status") (letters_of m) t (letters-line m)

has_letters-true : (letters : List ℕ) (found : Option Field) → has_letters letters found ≡ true → option_map unfolded found ≡ Some letters
has_letters-true letters None has = absurd (false≢true has)
has_letters-true letters (Some f) has = ap (λ (x : List ℕ). Some x) ((bytes_eq-Decides (unfolded f) letters).0 has)

has_letters-of : (letters : List ℕ) (found : Option Field) → option_map unfolded found ≡ Some letters → has_letters letters found ≡ true
has_letters-of letters None is = cc
has_letters-of letters (Some f) is = let same : unfolded f ≡ letters = cc in (bytes_eq-Decides (unfolded f) letters).1 same

letters-same : (m : Mark) (t : List ℕ) → has_letters (letters_of m) (status_of t) ≡ true → with_letters m t ≡ t
letters-same m t has = cond-true _ _ _ has

letters-set : (m : Mark) (t : List ℕ) → has_letters (letters_of m) (status_of t) ≡ false → with_letters m t ≡ with_value (codes "Status") (letters_of m) t
letters-set m t lacks = cond-false _ _ _ lacks

letters-read : (m : Mark) (t : List ℕ) → letters_in (with_letters m t) ≡ Some (letters_of m)
letters-read m t =
    ⊎_elim
    (λ has. ap letters_in (letters-same m t has) ∙ has_letters-true (letters_of m) (status_of t) has)
    (λ lacks.
    ap letters_in (letters-set m t lacks)
    ∙ ap (option_map unfolded) (first-new (codes "Status") (letters_of m) t (with_value (codes "Status") (letters_of m) t) (letters-line m) (letters-new m t))
    ∙ (letters-are m).reads)
    (cases_Bool (has_letters (letters_of m) (status_of t)))

-- letters leave the other field
letters-beside : (m : Mark) (t : List ℕ) → x_status_of (with_letters m t) ≡ x_status_of t
letters-beside m t =
    ⊎_elim
    (λ has. ap x_status_of (letters-same m t has))
    (λ lacks.
    ap x_status_of (letters-set m t lacks)
    ∙ first-another (codes "Status") (codes "X-Status") (letters_of m) t (with_value (codes "Status") (letters_of m) t) refl (letters-line m) (letters-new m t))
    (cases_Bool (has_letters (letters_of m) (status_of t)))

nothing-differs : (name t s : List ℕ) → s ≡ t → HasTheRest (without name) t s
nothing-differs name t s same = record { from_line = ap from_line same; entries = ap (λ (x : List ℕ). without name (entries_of x)) same; body = ap body_of same }

rest-as : (name t s r : List ℕ) → r ≡ s → HasTheRest (without name) t s → HasTheRest (without name) t r
rest-as name t s r is rest = subst (HasTheRest (without name) t) (sym is) rest

letters-rest : (m : Mark) (t : List ℕ) → HasTheRest (without (codes "Status")) t (with_letters m t)
letters-rest m t =
    ⊎_elim
    (λ has. nothing-differs (codes "Status") t (with_letters m t) (letters-same m t has))
    (λ lacks.
    let s = with_value (codes "Status") (letters_of m) t in
    rest-as (codes "Status") t s (with_letters m t) (letters-set m t lacks) (rest-kept (codes "Status") (letters_of m) t s (letters-line m) (letters-new m t)))
    (cases_Bool (has_letters (letters_of m) (status_of t)))

-- ---- the field of flags

flags-line : (flags : Flags) (t : List ℕ) → IsFieldLine (codes "X-Status") (flags_value flags (x_status_of t))
flags-line flags t = x_status-line (flags_value flags (x_status_of t)) (value-apart flags (x_status_of t))

pub flags-new : (flags : Flags) (t : List ℕ) → HasNewValue (codes "X-Status") (flags_value flags (x_status_of t)) t (with_value (codes "X-Status") (flags_value flags (x_status_of t)) t)
flags-new flags t = with_value-is (codes "X-Status") (flags_value flags (x_status_of t)) t (flags-line flags t)

flags-same : (flags : Flags) (t : List ℕ) → same_flags (flags_of t) flags ≡ true → with_flags flags t ≡ t
flags-same flags t has = cond-true _ _ _ has

flags-set : (flags : Flags) (t : List ℕ) → same_flags (flags_of t) flags ≡ false → with_flags flags t ≡ with_value (codes "X-Status") (flags_value flags (x_status_of t)) t
flags-set flags t lacks = cond-false _ _ _ lacks

x_status-set : (flags : Flags) (t : List ℕ) → same_flags (flags_of t) flags ≡ false → x_status_of (with_flags flags t) ≡ new_field (codes "X-Status") (flags_value flags (x_status_of t))
x_status-set flags t lacks =
    let value = flags_value flags (x_status_of t) in
    ap x_status_of (flags-set flags t lacks)
    ∙ first-new (codes "X-Status") value t (with_value (codes "X-Status") value t) (flags-line flags t) (flags-new flags t)

-- a space in front is no letter
read-value : (name value : List ℕ) → IsFieldLine name value → flags_in (raw_value (new_field name value)) ≡ flags_in value
read-value name [] is = refl
read-value name (b ∷ bs) is = ap flags_in is.value_is

foreign-value : (name value : List ℕ) → IsFieldLine name value → foreign_in (raw_value (new_field name value)) ≡ foreign_in value
foreign-value name [] is = refl
foreign-value name (b ∷ bs) is = ap foreign_in is.value_is

flags-given : (flags : Flags) (t : List ℕ) → flags_of (with_flags flags t) ≡ flags
flags-given flags t =
    ⊎_elim
    (λ has. ap flags_of (flags-same flags t has) ∙ same_flags-is (flags_of t) flags has)
    (λ lacks.
    ap (λ (x : Option Field). flags_in (raw_value x)) (x_status-set flags t lacks)
    ∙ read-value (codes "X-Status") (flags_value flags (x_status_of t)) (flags-line flags t)
    ∙ flags-read flags (x_status_of t))
    (cases_Bool (same_flags (flags_of t) flags))

flags-others : (flags : Flags) (t : List ℕ) → foreign_letters (with_flags flags t) ≡ foreign_letters t
flags-others flags t =
    ⊎_elim
    (λ has. ap foreign_letters (flags-same flags t has))
    (λ lacks.
    ap (λ (x : Option Field). foreign_in (raw_value x)) (x_status-set flags t lacks)
    ∙ foreign-value (codes "X-Status") (flags_value flags (x_status_of t)) (flags-line flags t)
    ∙ foreign-kept flags (x_status_of t))
    (cases_Bool (same_flags (flags_of t) flags))

flags-beside : (flags : Flags) (t : List ℕ) → status_of (with_flags flags t) ≡ status_of t
flags-beside flags t =
    ⊎_elim
    (λ has. ap status_of (flags-same flags t has))
    (λ lacks.
    let value = flags_value flags (x_status_of t) in
    ap status_of (flags-set flags t lacks)
    ∙ first-another (codes "X-Status") (codes "Status") value t (with_value (codes "X-Status") value t) refl (flags-line flags t) (flags-new flags t))
    (cases_Bool (same_flags (flags_of t) flags))

flags-rest : (flags : Flags) (t : List ℕ) → HasTheRest (without (codes "X-Status")) t (with_flags flags t)
flags-rest flags t =
    ⊎_elim
    (λ has. nothing-differs (codes "X-Status") t (with_flags flags t) (flags-same flags t has))
    (λ lacks.
    let value = flags_value flags (x_status_of t) in
    let s = with_value (codes "X-Status") value t in
    rest-as (codes "X-Status") t s (with_flags flags t) (flags-set flags t lacks) (rest-kept (codes "X-Status") value t s (flags-line flags t) (flags-new flags t)))
    (cases_Bool (same_flags (flags_of t) flags))

-- ---- both

pub stamp-reads : (t : List ℕ) (m : Mark) → letters_in (stamped t m) ≡ Some (letters_of m)
stamp-reads t m = ap (option_map unfolded) (flags-beside m.flags (with_letters m t)) ∙ letters-read m t

pub stamp-flags : (t : List ℕ) (m : Mark) → flags_of (stamped t m) ≡ m.flags
stamp-flags t m = flags-given m.flags (with_letters m t)

pub stamp-others : (t : List ℕ) (m : Mark) → foreign_letters (stamped t m) ≡ foreign_letters t
stamp-others t m = flags-others m.flags (with_letters m t) ∙ ap (λ (x : Option Field). foreign_in (raw_value x)) (letters-beside m t)

flags-after : (t : List ℕ) (m : Mark) → flags_of (with_letters m t) ≡ flags_of t
flags-after t m = ap (λ (x : Option Field). flags_in (raw_value x)) (letters-beside m t)

-- a text with the letters and the flags of the mark is its own stamped text
pub stamp-same : (t : List ℕ) (m : Mark) → is_stamped t m ≡ true → stamped t m ≡ t
stamp-same t m is =
    let has = and_parts (has_letters (letters_of m) (status_of t)) (same_flags (flags_of t) m.flags) is in
    let same = letters-same m t has.0 in
    ap (with_flags m.flags) same ∙ flags-same m.flags t has.1

-- and only such a text
pub stamp-fixed : (t : List ℕ) (m : Mark) → stamped t m ≡ t → is_stamped t m ≡ true
stamp-fixed t m same =
    and_from _ _
    (has_letters-of (letters_of m) (status_of t) (ap letters_in (sym same) ∙ stamp-reads t m))
    (same_flags-of (flags_of t) m.flags (ap flags_of (sym same) ∙ stamp-flags t m))

pub stamp-left : (t : List ℕ) (m : Mark) → IsLeftExactly t m
stamp-left t m = record { left = stamp-same t m; has = stamp-fixed t m }

stamp-has : (t : List ℕ) (m : Mark) → is_stamped (stamped t m) m ≡ true
stamp-has t m = and_from _ _ (has_letters-of (letters_of m) (status_of (stamped t m)) (stamp-reads t m)) (same_flags-of (flags_of (stamped t m)) m.flags (stamp-flags t m))

pub stamp-once : (t : List ℕ) (m : Mark) → stamped (stamped t m) m ≡ stamped t m
stamp-once t m = stamp-same (stamped t m) m (stamp-has t m)

pub stamp-rest : (t : List ℕ) (m : Mark) → HasTheRest without_marks t (stamped t m)
stamp-rest t m =
    let one = letters-rest m t in
    let two = flags-rest m.flags (with_letters m t) in
    let status = codes "Status" in
    let x_status = codes "X-Status" in
    record {
      from_line = two.from_line ∙ one.from_line;
      entries =
          without-swap x_status status (entries_of (stamped t m))
          ∙ ap (without status) two.entries
          ∙ without-swap status x_status (entries_of (with_letters m t))
          ∙ ap (without x_status) one.entries;
      body = two.body ∙ one.body;
    }

pub stamp-keeps_flags : (t : List ℕ) (m : Mark) → flags_of t ≡ m.flags → HasTheRest (without (codes "Status")) t (stamped t m)
stamp-keeps_flags t m same =
    rest-as (codes "Status") t (with_letters m t) (stamped t m)
    (flags-same m.flags (with_letters m t) (same_flags-of (flags_of (with_letters m t)) m.flags (flags-after t m ∙ same)))
    (letters-rest m t)

pub stamp-keeps_letters : (t : List ℕ) (m : Mark) → letters_in t ≡ Some (letters_of m) → HasTheRest (without (codes "X-Status")) t (stamped t m)
stamp-keeps_letters t m same =
    rest-as (codes "X-Status") t (with_flags m.flags t) (stamped t m)
    (ap (with_flags m.flags) (letters-same m t (has_letters-of (letters_of m) (status_of t) same)))
    (flags-rest m.flags t)

-- ---- the mark of a stamped text

abbrev marked_by : Bool → Bool → Flags → Mark
marked_by read old flags = if read then record { state = Read; seen = true; flags = flags } else
    (if old then record { state = Unread; seen = false; flags = flags } else record { state = New; seen = false; flags = flags })

seen-by : (read old : Bool) (flags : Flags) → (marked_by read old flags).seen ≡ read
seen-by true old flags = refl
seen-by false true flags = refl
seen-by false false flags = refl

seen-letter : (seen : Bool) → has_letter 82 (if seen then codes "RO" else codes "O") ≡ seen
seen-letter true = refl
seen-letter false = refl

seen-found : (m : Mark) (found : Option Field) → option_map unfolded found ≡ Some (letters_of m) → has_letter 82 (raw_value found) ≡ m.seen
seen-found m None is = cc
seen-found m (Some f) is =
    let same : unfolded f ≡ letters_of m = cc in
    sym (letter-unfolded 82 f refl) ∙ ap (has_letter 82) same ∙ seen-letter m.seen

pub stamp-marks : (t : List ℕ) (m : Mark) → (mark_of (stamped t m)).seen ≡ m.seen
stamp-marks t m =
    let found = status_of (stamped t m) in
    seen-by (has_letter 82 (raw_value found)) (has_letter 79 (raw_value found)) (flags_of (stamped t m)) ∙ seen-found m found (stamp-reads t m)
