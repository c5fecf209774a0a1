-- Bytes that are kept of a value, and the letters of flags.
use Rattle.std.proofs.Common.{◌≡◌, ℕ, zero, suc, Bool, true, false, not, ◌==◌, ◌||◌, ◌&&◌, List, [], ◌∷◌, ◌++◌, Option, Some, None, refl, sym, ap, ◌∙◌, ⊎_elim, arith}
use Rattle.std.specs.Prelude.{filter}
use Rattle.std.specs.Bool.{if◌then◌else◌}
use Rattle.std.proofs.lemmas.Bool.{cond-true, cond-false, cases_Bool, false≢true, eqb-true, or_parts, or_from, or_left, and_parts, and_from, eq-eqb}
use Rattle.mail_text.specs.Ascii.{is_blank}
use Rattle.mail_text.specs.Lines.{HasNoFeed}
use Rattle.mail_headers.specs.Cutting.{is_space}
use Rattle.mail_headers.specs.Field.{Field, unfolded, without_feeds, unless_last_blank, trim_start, trim_end}
use Rattle.message_state.specs.declared.mark.Flags.{Flags}
use Rattle.message_state.specs.Rows.{value_or_empty}
use Rattle.message_state.specs.Status.{raw_value, has_letter, flags_in}
use Rattle.message_state.specs.Stamp.{same, same_flags, flag_letters, is_flag_letter, other_bytes, flags_value}
use Rattle.message_state.specs.StampLaws.{is_foreign}

-- ---- what other programs put into a value

abbrev pub foreign_in : List ℕ → List ℕ
foreign_in value = filter is_foreign value

foreign-head : (foreign : Bool) (b : ℕ) (bs : List ℕ) → is_foreign b ≡ foreign → foreign_in (b ∷ bs) ≡ (if foreign then b ∷ foreign_in bs else foreign_in bs)
foreign-head foreign b bs is = ap (λ (x : Bool). if x then b ∷ foreign_in bs else foreign_in bs) is

foreign-same : (b : ℕ) (xs ys : List ℕ) → foreign_in xs ≡ foreign_in ys → foreign_in (b ∷ xs) ≡ foreign_in (b ∷ ys)
foreign-same b xs ys same = ap (λ (x : List ℕ). if is_foreign b then b ∷ x else x) same

not-or : (x y : Bool) → y ≡ true → not (x || y) ≡ false
not-or true y is = refl
not-or false y is = ap not is

space-passed : (b : ℕ) (bs : List ℕ) → is_space b ≡ true → foreign_in (b ∷ bs) ≡ foreign_in bs
space-passed b bs is = foreign-head false b bs (not-or (is_flag_letter b) (is_space b) is)

letter-passed : (b : ℕ) (bs : List ℕ) → is_flag_letter b ≡ true → foreign_in (b ∷ bs) ≡ foreign_in bs
letter-passed b bs is = foreign-head false b bs (ap not (or_left (is_flag_letter b) (is_space b) is))

blank-space : (b : ℕ) → is_blank b ≡ true → is_space b ≡ true
blank-space b is = or_left (is_blank b) (b == 10) is

feed-space : (b : ℕ) → (b == 10) ≡ true → is_space b ≡ true
feed-space b is = ap is_space (eqb-true b 10 is)

foreign-without_feeds : (bs : List ℕ) → foreign_in (without_feeds bs) ≡ foreign_in bs
foreign-without_feeds [] = refl
foreign-without_feeds (b ∷ bs) =
    let head = λ (x : Bool). foreign_in (if not x then b ∷ without_feeds bs else without_feeds bs) in
    ⊎_elim
    (λ is. ap head is ∙ foreign-without_feeds bs ∙ sym (space-passed b bs (feed-space b is)))
    (λ other. ap head other ∙ foreign-same b (without_feeds bs) bs (foreign-without_feeds bs))
    (cases_Bool (b == 10))

foreign-trim_start : (bs : List ℕ) → foreign_in (trim_start bs) ≡ foreign_in bs
unfolding trim_start
foreign-trim_start [] = refl
foreign-trim_start (b ∷ bs) =
    ⊎_elim
    (λ blank. ap foreign_in (cond-true _ _ _ blank) ∙ foreign-trim_start bs ∙ sym (space-passed b bs (blank-space b blank)))
    (λ other. ap foreign_in (cond-false _ _ _ other))
    (cases_Bool (is_blank b))

foreign-last : (b : ℕ) (bs : List ℕ) → foreign_in (unless_last_blank b bs) ≡ foreign_in (b ∷ bs)
foreign-last b [] =
    ⊎_elim
    (λ blank. ap foreign_in (cond-true _ _ _ blank) ∙ sym (space-passed b [] (blank-space b blank)))
    (λ other. ap foreign_in (cond-false _ _ _ other))
    (cases_Bool (is_blank b))
foreign-last b (c ∷ bs) = refl

foreign-trim_end : (bs : List ℕ) → foreign_in (trim_end bs) ≡ foreign_in bs
unfolding trim_end
foreign-trim_end [] = refl
foreign-trim_end (b ∷ bs) = foreign-last b (trim_end bs) ∙ foreign-same b (trim_end bs) bs (foreign-trim_end bs)

pub foreign-unfolded : (f : Field) → foreign_in (unfolded f) ≡ foreign_in f.value
foreign-unfolded f = foreign-trim_end (trim_start (without_feeds f.value)) ∙ foreign-trim_start (without_feeds f.value) ∙ foreign-without_feeds f.value

-- ---- a letter of another program

letter-skipped : (letter b : ℕ) (bs : List ℕ) → (b == letter) ≡ false → has_letter letter (b ∷ bs) ≡ has_letter letter bs
letter-skipped letter b bs differs = ap (λ (x : Bool). x || has_letter letter bs) differs

letter-foreign : (letter : ℕ) (bs : List ℕ) → is_foreign letter ≡ true → has_letter letter (foreign_in bs) ≡ has_letter letter bs
letter-foreign letter [] is = refl
letter-foreign letter (b ∷ bs) is =
    ⊎_elim
    (λ kept. ap (has_letter letter) (foreign-head true b bs kept) ∙ ap (λ (x : Bool). b == letter || x) (letter-foreign letter bs is))
    (λ passed.
    ap (has_letter letter) (foreign-head false b bs passed)
    ∙ letter-foreign letter bs is
    ∙ sym (letter-skipped letter b bs (differs b passed)))
    (cases_Bool (is_foreign b))
  where
    differs : (b : ℕ) → is_foreign b ≡ false → (b == letter) ≡ false
    differs b passed =
        ⊎_elim
        (λ same. absurd (false≢true (sym passed ∙ ap is_foreign (eqb-true b letter same) ∙ is)))
        (λ other. other)
        (cases_Bool (b == letter))

-- a letter of another program stands in an unfolded value if it stands in the value
pub letter-unfolded : (letter : ℕ) (f : Field) → is_foreign letter ≡ true → has_letter letter (unfolded f) ≡ has_letter letter f.value
letter-unfolded letter f is = sym (letter-foreign letter (unfolded f) is) ∙ ap (has_letter letter) (foreign-unfolded f) ∙ letter-foreign letter f.value is

-- ---- the other bytes of a value

other-head : (letter : Bool) (b : ℕ) (bs : List ℕ) → is_flag_letter b ≡ letter → other_bytes (b ∷ bs) ≡ (if not letter then b ∷ other_bytes bs else other_bytes bs)
other-head letter b bs is = ap (λ (x : Bool). if not x then b ∷ other_bytes bs else other_bytes bs) is

foreign-others : (bs : List ℕ) → foreign_in (other_bytes bs) ≡ foreign_in bs
foreign-others [] = refl
foreign-others (b ∷ bs) =
    ⊎_elim
    (λ letter. ap foreign_in (other-head true b bs letter) ∙ foreign-others bs ∙ sym (letter-passed b bs letter))
    (λ other. ap foreign_in (other-head false b bs other) ∙ foreign-same b (other_bytes bs) bs (foreign-others bs))
    (cases_Bool (is_flag_letter b))

foreign-value : (found : Option Field) → foreign_in (value_or_empty found) ≡ foreign_in (raw_value found)
foreign-value None = refl
foreign-value (Some f) = foreign-unfolded f

foreign-letters : (a f d : Bool) (rest : List ℕ) → foreign_in (flag_letters (record { answered = a; flagged = f; draft = d }) ++ rest) ≡ foreign_in rest
foreign-letters true true true rest = refl
foreign-letters true true false rest = refl
foreign-letters true false true rest = refl
foreign-letters true false false rest = refl
foreign-letters false true true rest = refl
foreign-letters false true false rest = refl
foreign-letters false false true rest = refl
foreign-letters false false false rest = refl

-- a new value keeps what other programs put into the old one
pub foreign-kept : (flags : Flags) (found : Option Field) → foreign_in (flags_value flags found) ≡ foreign_in (raw_value found)
foreign-kept flags found =
    foreign-letters flags.answered flags.flagged flags.draft (other_bytes (value_or_empty found))
    ∙ foreign-others (value_or_empty found)
    ∙ foreign-value found

-- ---- the flags of a new value

others-lack : (letter : ℕ) (bs : List ℕ) → is_flag_letter letter ≡ true → has_letter letter (other_bytes bs) ≡ false
others-lack letter [] is = refl
others-lack letter (b ∷ bs) is =
    ⊎_elim
    (λ ours. ap (has_letter letter) (other-head true b bs ours) ∙ others-lack letter bs is)
    (λ other. ap (has_letter letter) (other-head false b bs other) ∙ letter-skipped letter b (other_bytes bs) (differs b other) ∙ others-lack letter bs is)
    (cases_Bool (is_flag_letter b))
  where
    differs : (b : ℕ) → is_flag_letter b ≡ false → (b == letter) ≡ false
    differs b kept =
        ⊎_elim
        (λ same. absurd (false≢true (sym kept ∙ ap is_flag_letter (eqb-true b letter same) ∙ is)))
        (λ other. other)
        (cases_Bool (b == letter))

abbrev letters_by : Bool → Bool → Bool → List ℕ → List ℕ
letters_by a f d rest = flag_letters (record { answered = a; flagged = f; draft = d }) ++ rest

answered-read : (a f d : Bool) (rest : List ℕ) → has_letter 65 rest ≡ false → has_letter 65 (letters_by a f d rest) ≡ a
answered-read true f d rest none = refl
answered-read false true true rest none = none
answered-read false true false rest none = none
answered-read false false true rest none = none
answered-read false false false rest none = none

flagged-read : (a f d : Bool) (rest : List ℕ) → has_letter 70 rest ≡ false → has_letter 70 (letters_by a f d rest) ≡ f
flagged-read true true d rest none = refl
flagged-read false true d rest none = refl
flagged-read true false true rest none = none
flagged-read true false false rest none = none
flagged-read false false true rest none = none
flagged-read false false false rest none = none

draft-read : (a f d : Bool) (rest : List ℕ) → has_letter 84 rest ≡ false → has_letter 84 (letters_by a f d rest) ≡ d
draft-read true true true rest none = refl
draft-read true true false rest none = none
draft-read true false true rest none = refl
draft-read true false false rest none = none
draft-read false true true rest none = refl
draft-read false true false rest none = none
draft-read false false true rest none = refl
draft-read false false false rest none = none

flags-made : (a f d answered flagged draft : Bool) → a ≡ answered → f ≡ flagged → d ≡ draft
    → ◌≡◌ {A = Flags} (record { answered = a; flagged = f; draft = d }) (record { answered = answered; flagged = flagged; draft = draft })
flags-made a f d answered flagged draft one two three = λ j. record { answered = one j; flagged = two j; draft = three j }

pub flags-read : (flags : Flags) (found : Option Field) → flags_in (flags_value flags found) ≡ flags
flags-read flags found =
    let rest = other_bytes (value_or_empty found) in
    flags-made _ _ _ flags.answered flags.flagged flags.draft
    (answered-read flags.answered flags.flagged flags.draft rest (others-lack 65 (value_or_empty found) refl))
    (flagged-read flags.answered flags.flagged flags.draft rest (others-lack 70 (value_or_empty found) refl))
    (draft-read flags.answered flags.flagged flags.draft rest (others-lack 84 (value_or_empty found) refl))

-- ---- the same flags

same-is : (a b : Bool) → same a b ≡ true → a ≡ b
same-is true true is = refl
same-is false false is = refl
same-is true false is = absurd (false≢true is)
same-is false true is = absurd (false≢true is)

same-refl : (a : Bool) → same a a ≡ true
same-refl true = refl
same-refl false = refl

pub same_flags-is : (a b : Flags) → same_flags a b ≡ true → a ≡ b
same_flags-is a b is =
    let first = and_parts (same a.answered b.answered) (same a.flagged b.flagged && same a.draft b.draft) is in
    let later = and_parts (same a.flagged b.flagged) (same a.draft b.draft) first.1 in
    flags-made a.answered a.flagged a.draft b.answered b.flagged b.draft
    (same-is a.answered b.answered first.0) (same-is a.flagged b.flagged later.0) (same-is a.draft b.draft later.1)

same_flags-refl : (a : Flags) → same_flags a a ≡ true
same_flags-refl a = and_from _ _ (same-refl a.answered) (and_from _ _ (same-refl a.flagged) (same-refl a.draft))

pub same_flags-of : (a b : Flags) → a ≡ b → same_flags a b ≡ true
same_flags-of a b is = ap (λ (x : Flags). same_flags x b) is ∙ same_flags-refl b

-- ---- a new value has no line feed

feeds-out : (bs : List ℕ) → has_letter 10 (without_feeds bs) ≡ false
feeds-out [] = refl
feeds-out (b ∷ bs) =
    let head = λ (x : Bool). has_letter 10 (if not x then b ∷ without_feeds bs else without_feeds bs) in
    ⊎_elim
    (λ is. ap head is ∙ feeds-out bs)
    (λ other. ap head other ∙ letter-skipped 10 b (without_feeds bs) other ∙ feeds-out bs)
    (cases_Bool (b == 10))

start-lacks : (letter : ℕ) (bs : List ℕ) → has_letter letter bs ≡ false → has_letter letter (trim_start bs) ≡ false
unfolding trim_start
start-lacks letter [] lacks = lacks
start-lacks letter (b ∷ bs) lacks =
    ⊎_elim
    (λ blank. ap (has_letter letter) (cond-true _ _ _ blank) ∙ start-lacks letter bs (or_parts (b == letter) (has_letter letter bs) lacks).1)
    (λ other. ap (has_letter letter) (cond-false _ _ _ other) ∙ lacks)
    (cases_Bool (is_blank b))

last-lacks : (letter b : ℕ) (bs : List ℕ) → has_letter letter (b ∷ bs) ≡ false → has_letter letter (unless_last_blank b bs) ≡ false
last-lacks letter b [] lacks =
    ⊎_elim
    (λ blank. ap (has_letter letter) (cond-true _ _ _ blank))
    (λ other. ap (has_letter letter) (cond-false _ _ _ other) ∙ lacks)
    (cases_Bool (is_blank b))
last-lacks letter b (c ∷ bs) lacks = lacks

end-lacks : (letter : ℕ) (bs : List ℕ) → has_letter letter bs ≡ false → has_letter letter (trim_end bs) ≡ false
unfolding trim_end
end-lacks letter [] lacks = lacks
end-lacks letter (b ∷ bs) lacks =
    let parts = or_parts (b == letter) (has_letter letter bs) lacks in
    last-lacks letter b (trim_end bs) (or_from (b == letter) (has_letter letter (trim_end bs)) parts.0 (end-lacks letter bs parts.1))

others-keep : (letter : ℕ) (bs : List ℕ) → has_letter letter bs ≡ false → has_letter letter (other_bytes bs) ≡ false
others-keep letter [] lacks = lacks
others-keep letter (b ∷ bs) lacks =
    let parts = or_parts (b == letter) (has_letter letter bs) lacks in
    ⊎_elim
    (λ ours. ap (has_letter letter) (other-head true b bs ours) ∙ others-keep letter bs parts.1)
    (λ other. ap (has_letter letter) (other-head false b bs other) ∙ letter-skipped letter b (other_bytes bs) parts.0 ∙ others-keep letter bs parts.1)
    (cases_Bool (is_flag_letter b))

letters-apart : (a f d : Bool) (rest : List ℕ) → has_letter 10 (letters_by a f d rest) ≡ has_letter 10 rest
letters-apart true true true rest = refl
letters-apart true true false rest = refl
letters-apart true false true rest = refl
letters-apart true false false rest = refl
letters-apart false true true rest = refl
letters-apart false true false rest = refl
letters-apart false false true rest = refl
letters-apart false false false rest = refl

found-apart : (found : Option Field) → has_letter 10 (value_or_empty found) ≡ false
found-apart None = refl
found-apart (Some f) = end-lacks 10 (trim_start (without_feeds f.value)) (start-lacks 10 (without_feeds f.value) (feeds-out f.value))

apart-from : (l : List ℕ) → has_letter 10 l ≡ false → HasNoFeed l
apart-from [] lacks k d lt = absurd (omega arith)
apart-from (b ∷ l) lacks zero d lt = λ feed. false≢true (sym (or_parts (b == 10) (has_letter 10 l) lacks).0 ∙ eq-eqb b 10 feed)
apart-from (b ∷ l) lacks (suc k) d lt = apart-from l (or_parts (b == 10) (has_letter 10 l) lacks).1 k d (omega arith)

pub value-apart : (flags : Flags) (found : Option Field) → HasNoFeed (flags_value flags found)
value-apart flags found =
    apart-from (flags_value flags found)
    (letters-apart flags.answered flags.flagged flags.draft (other_bytes (value_or_empty found)) ∙ others-keep 10 (value_or_empty found) (found-apart found))
