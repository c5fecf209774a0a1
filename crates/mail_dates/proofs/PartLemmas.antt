-- The parts at the front of a text.
use Rattle.std.proofs.Common.{◌≡◌, ◌≢◌, ℕ, suc, ◌+◌, ◌<◌, ◌||◌, Bool, true, false, eqb, List, [], ◌∷◌, ◌++◌, length, take, drop, ◌==◌, ◌⊎◌, inl, inr, refl, sym, ap, ◌∙◌, arith, None, Some}
use Rattle.std.proofs.lemmas.Bool.{cases_Bool, ne_eqb, cases_eq, and_parts, and_from}
use Rattle.std.proofs.lemmas.Bool.Decides.{nat_tests}
use Rattle.std.specs.Char.{is_ascii_digit, is_ascii_alphabetic}
use Rattle.std.proofs.Math.Seq.{take-append_seam, drop-append_seam, take-length, drop-length}
use Rattle.std.proofs.lemmas.List.{append-nil}
use Rattle.std.specs.List.{prefix_len, list_all}
use Rattle.mail_dates.specs.Parts.{Outside, Inside, Part, Number, Word, Signed, Comma, Colon, Blank, Other, without_comments, parts_of, without_blanks, digit_before, letter_before, sign_before, single, byte_before, date_parts}
use Rattle.mail_dates.specs.Reading.{IsAtPart, number_first, word_first, signed_first, comma_first, colon_first}

-- the parts of a text with its blanks
abbrev text_parts : List ℕ → List Part
text_parts text = parts_of (without_comments Outside text)

text_parts-cons : (b : ℕ) (bs : List ℕ) → b ≢ 40 → text_parts (b ∷ bs) ≡ byte_before b (text_parts bs)
unfolding without_comments parts_of
text_parts-cons b bs h = rw (ne_eqb b 40 h)

text_parts-open : (bs : List ℕ) → text_parts (40 ∷ bs) ≡ Blank ∷ parts_of (without_comments (Inside 0) bs)
unfolding without_comments parts_of
text_parts-open bs = refl

-- which part comes first: none, a number, a word, a number with a sign, a comma, a colon, a blank or another byte
abbrev kind : List Part → ℕ
kind [] = 0
kind (Number text ∷ ps) = 1
kind (Word text ∷ ps) = 2
kind (Signed sign text ∷ ps) = 3
kind (Comma ∷ ps) = 4
kind (Colon ∷ ps) = 5
kind (Blank ∷ ps) = 6
kind (Other b ∷ ps) = 7

digit_before-other : (b : ℕ) (ps : List Part) → kind ps ≢ 1 → digit_before b ps ≡ Number (b ∷ []) ∷ ps
digit_before-other b (Number text ∷ ps) h = absurd (h refl)
digit_before-other b ps h = refl

letter_before-other : (b : ℕ) (ps : List Part) → kind ps ≢ 2 → letter_before b ps ≡ Word (b ∷ []) ∷ ps
letter_before-other b (Word text ∷ ps) h = absurd (h refl)
letter_before-other b ps h = refl

sign_before-other : (b : ℕ) (ps : List Part) → kind ps ≢ 1 → sign_before b ps ≡ Other b ∷ ps
sign_before-other b (Number text ∷ ps) h = absurd (h refl)
sign_before-other b ps h = refl

kind-digit : (b : ℕ) (ps : List Part) → kind (digit_before b ps) ≡ 1
kind-digit b (Number text ∷ ps) = refl
kind-digit b ps = refl

kind-letter : (b : ℕ) (ps : List Part) → kind (letter_before b ps) ≡ 2
kind-letter b (Word text ∷ ps) = refl
kind-letter b ps = refl

kind-sign : (b : ℕ) (ps : List Part) → (kind (sign_before b ps) ≡ 3) ⊎ (kind (sign_before b ps) ≡ 7)
kind-sign b (Number text ∷ ps) = inl refl
kind-sign b ps = inr refl

abbrev pub is_sign : ℕ → Bool
is_sign b = (eqb b 43) || (eqb b 45)

-- a byte with the kind of its part
abbrev ByteKind : ℕ → ℕ → Type 0
ByteKind b k =
    ((is_ascii_digit b ≡ true) × (k ≡ 1)) ⊎ (((is_ascii_alphabetic b ≡ true) × (k ≡ 2))
    ⊎ (((is_sign b ≡ true) × ((k ≡ 3) ⊎ (k ≡ 7))) ⊎ (((b ≡ 32) × (k ≡ 6)) ⊎ (((b ≡ 9) × (k ≡ 6))
    ⊎ (((b ≡ 44) × (k ≡ 4)) ⊎ (((b ≡ 58) × (k ≡ 5)) ⊎ (k ≡ 7)))))))

kind-single : (b : ℕ) (ps : List Part) → ByteKind b (kind (single b ∷ ps))
kind-single b ps = grind (arith, nat_tests)

same_kind : (b k other : ℕ) → k ≡ other → ByteKind b other → ByteKind b k
same_kind b k other e w = rw e w

kind-byte : (b : ℕ) (ps : List Part) → ByteKind b (kind (byte_before b ps))
kind-byte b ps =
    elim (cases_Bool (is_ascii_digit b)) [
      | inl d ↦ inl (d, rw d (kind-digit b ps))
      | inr not_d ↦ elim (cases_Bool (is_ascii_alphabetic b)) [
        | inl l ↦ inr (inl (l, rw (not_d, l) (kind-letter b ps)))
        | inr not_l ↦ elim (cases_Bool (is_sign b)) [
          | inl s ↦ inr (inr (inl (s, rw (not_d, not_l, s) (kind-sign b ps))))
          | inr not_s ↦ same_kind b _ (kind (single b ∷ ps)) (rw (not_d, not_l, not_s) refl) (kind-single b ps)
        ]
      ]
    ]

-- the first part of a text
text_kind : (b : ℕ) (bs : List ℕ) → b ≢ 40 → ByteKind b (kind (text_parts (b ∷ bs)))
text_kind b bs h = rw (text_parts-cons b bs h) (kind-byte b (text_parts bs))

kind-open : (bs : List ℕ) → kind (text_parts (40 ∷ bs)) ≡ 6
kind-open bs = rw (text_parts-open bs) refl

not_number : (b k : ℕ) → is_ascii_digit b ≡ false → ByteKind b k → k ≢ 1
not_number b k h w = λ e. grind arith

not_word : (b k : ℕ) → is_ascii_alphabetic b ≡ false → ByteKind b k → k ≢ 2
not_word b k h w = λ e. grind arith

not_signed : (b k : ℕ) → is_sign b ≡ false → ByteKind b k → k ≢ 3
not_signed b k h w = λ e. grind arith

not_blank : (b k : ℕ) → b ≢ 32 → b ≢ 9 → ByteKind b k → k ≢ 6
not_blank b k h t w = λ e. grind arith

not_comma : (b k : ℕ) → b ≢ 44 → ByteKind b k → k ≢ 4
not_comma b k h w = λ e. grind arith

not_colon : (b k : ℕ) → b ≢ 58 → ByteKind b k → k ≢ 5
not_colon b k h w = λ e. grind arith

-- a text with no digit at its front begins with no number
kind-no_digit : (text : List ℕ) → prefix_len is_ascii_digit text ≡ 0 → kind (text_parts text) ≢ 1
unfolding without_comments parts_of
kind-no_digit [] h = omega arith
kind-no_digit (b ∷ bs) h =
    elim (cases_eq b 40) [
      | inl opens ↦ rw opens (omega (arith, kind-open bs))
      | inr ne ↦ elim (cases_Bool (is_ascii_digit b)) [
        | inl d ↦ absurd (let e = rw d at h in omega arith)
        | inr not_d ↦ not_number b _ not_d (text_kind b bs ne)
      ]
    ]

-- and one with no letter there with no word
kind-no_letter : (text : List ℕ) → prefix_len is_ascii_alphabetic text ≡ 0 → kind (text_parts text) ≢ 2
unfolding without_comments parts_of
kind-no_letter [] h = omega arith
kind-no_letter (b ∷ bs) h =
    elim (cases_eq b 40) [
      | inl opens ↦ rw opens (omega (arith, kind-open bs))
      | inr ne ↦ elim (cases_Bool (is_ascii_alphabetic b)) [
        | inl l ↦ absurd (let e = rw l at h in omega arith)
        | inr not_l ↦ not_word b _ not_l (text_kind b bs ne)
      ]
    ]

not_open-digit : (b : ℕ) → is_ascii_digit b ≡ true → b ≢ 40
not_open-digit b h = λ e. (let f = rw e at h in cc)

not_open-letter : (b : ℕ) → is_ascii_alphabetic b ≡ true → b ≢ 40
not_open-letter b h = λ e. (let f = rw e at h in cc)

not_open-sign : (b : ℕ) → is_sign b ≡ true → b ≢ 40
not_open-sign b h = λ e. (let f = rw e at h in cc)

not_digit-letter : (b : ℕ) → is_ascii_alphabetic b ≡ true → is_ascii_digit b ≡ false
not_digit-letter b h = grind (arith, nat_tests)

not_run-sign : (b : ℕ) → is_sign b ≡ true → (is_ascii_digit b ≡ false) × (is_ascii_alphabetic b ≡ false)
not_run-sign b h = grind (arith, nat_tests)

one_more : (n : ℕ) → 1 + n ≡ suc n
one_more n = omega arith

-- the digits at the front of a text are a part
number_run : (text : List ℕ) → 0 < prefix_len is_ascii_digit text
    → text_parts text ≡ Number (take (prefix_len is_ascii_digit text) text) ∷ text_parts (drop (prefix_len is_ascii_digit text) text)
number_run [] h = absurd (omega arith)
number_run (b ∷ bs) h =
    elim (cases_Bool (is_ascii_digit b)) [
      | inl d ↦
          let first : text_parts (b ∷ bs) ≡ digit_before b (text_parts bs) = text_parts-cons b bs (not_open-digit b d) ∙ rw d in
          rw (d, first) (elim (cases_eq (prefix_len is_ascii_digit bs) 0) [
            | inl last ↦ rw (last, digit_before-other b (text_parts bs) (kind-no_digit bs last)) refl
            | inr more ↦ rw (number_run bs (omega arith), one_more (prefix_len is_ascii_digit bs)) refl
          ])
      | inr not_d ↦ absurd (let e = rw not_d at h in omega arith)
    ]

-- the letters at the front of a text are a part
word_run : (text : List ℕ) → 0 < prefix_len is_ascii_alphabetic text
    → text_parts text ≡ Word (take (prefix_len is_ascii_alphabetic text) text) ∷ text_parts (drop (prefix_len is_ascii_alphabetic text) text)
word_run [] h = absurd (omega arith)
word_run (b ∷ bs) h =
    elim (cases_Bool (is_ascii_alphabetic b)) [
      | inl l ↦
          let first : text_parts (b ∷ bs) ≡ letter_before b (text_parts bs) = text_parts-cons b bs (not_open-letter b l) ∙ rw (not_digit-letter b l, l) in
          rw (l, first) (elim (cases_eq (prefix_len is_ascii_alphabetic bs) 0) [
            | inl last ↦ rw (last, letter_before-other b (text_parts bs) (kind-no_letter bs last)) refl
            | inr more ↦ rw (word_run bs (omega arith), one_more (prefix_len is_ascii_alphabetic bs)) refl
          ])
      | inr not_l ↦ absurd (let e = rw not_l at h in omega arith)
    ]

pub date_parts-number : (text : List ℕ) → 0 < prefix_len is_ascii_digit text
    → date_parts text ≡ Number (take (prefix_len is_ascii_digit text) text) ∷ date_parts (drop (prefix_len is_ascii_digit text) text)
unfolding without_blanks
date_parts-number text h = rw (number_run text h) refl

pub date_parts-word : (text : List ℕ) → 0 < prefix_len is_ascii_alphabetic text
    → date_parts text ≡ Word (take (prefix_len is_ascii_alphabetic text) text) ∷ date_parts (drop (prefix_len is_ascii_alphabetic text) text)
unfolding without_blanks
date_parts-word text h = rw (word_run text h) refl

text_parts-sign : (b : ℕ) (bs : List ℕ) → is_sign b ≡ true → text_parts (b ∷ bs) ≡ sign_before b (text_parts bs)
text_parts-sign b bs h =
    let run = not_run-sign b h in
    text_parts-cons b bs (not_open-sign b h) ∙ rw (run.0, run.1, h)

-- a sign and the digits that follow it at once are a part
date_parts-signed : (b : ℕ) (bs : List ℕ) → is_sign b ≡ true → 0 < prefix_len is_ascii_digit bs
    → date_parts (b ∷ bs) ≡ Signed b (take (prefix_len is_ascii_digit bs) bs) ∷ date_parts (drop (prefix_len is_ascii_digit bs) bs)
unfolding without_blanks
date_parts-signed b bs h more = rw (text_parts-sign b bs h, number_run bs more) refl

pub date_parts-nil : date_parts [] ≡ []
unfolding without_blanks without_comments parts_of
date_parts-nil = refl

pub date_parts-space : (bs : List ℕ) → date_parts (32 ∷ bs) ≡ date_parts bs
unfolding without_blanks without_comments parts_of
date_parts-space bs = refl

pub date_parts-tab : (bs : List ℕ) → date_parts (9 ∷ bs) ≡ date_parts bs
unfolding without_blanks without_comments parts_of
date_parts-tab bs = refl

pub date_parts-comma : (bs : List ℕ) → date_parts (44 ∷ bs) ≡ Comma ∷ date_parts bs
unfolding without_blanks without_comments parts_of
date_parts-comma bs = refl

pub date_parts-colon : (bs : List ℕ) → date_parts (58 ∷ bs) ≡ Colon ∷ date_parts bs
unfolding without_blanks without_comments parts_of
date_parts-colon bs = refl

-- a comment that isn't closed
date_parts-open : (bs : List ℕ) → without_comments (Inside 0) bs ≡ 40 ∷ [] → date_parts (40 ∷ bs) ≡ Other 40 ∷ []
unfolding without_blanks parts_of
date_parts-open bs h = rw (text_parts-open bs, h) refl

-- a comment that is closed
date_parts-comment : (bs rest : List ℕ) → without_comments (Inside 0) bs ≡ without_comments Outside rest → date_parts (40 ∷ bs) ≡ date_parts rest
unfolding without_blanks parts_of
date_parts-comment bs rest h = rw (text_parts-open bs, h) refl

-- steps of a scan over blanks and comments: `rest` has the parts of `text`
pub past_blank : (text rest tail : List ℕ) (b : ℕ) → (b ≡ 9) ⊎ (b ≡ 32) → rest ≡ b ∷ tail → date_parts rest ≡ date_parts text → date_parts tail ≡ date_parts text
past_blank text rest tail b (inl tab) is same = sym (date_parts-tab tail) ∙ rw (is, tab) at same
past_blank text rest tail b (inr space) is same = sym (date_parts-space tail) ∙ rw (is, space) at same

pub past_comment : (text rest tail after : List ℕ) (b : ℕ) → b ≡ 40 → rest ≡ b ∷ tail → without_comments (Inside 0) tail ≡ without_comments Outside after
    → date_parts rest ≡ date_parts text → date_parts after ≡ date_parts text
past_comment text rest tail after b opens is closes same = sym (date_parts-comment tail after closes) ∙ rw (is, opens) at same

pub open_comment : (text rest tail : List ℕ) (b : ℕ) → b ≡ 40 → rest ≡ b ∷ tail → without_comments (Inside 0) tail ≡ 40 ∷ []
    → date_parts rest ≡ date_parts text → date_parts text ≡ Other 40 ∷ []
open_comment text rest tail b opens is stays same = sym (rw (is, opens) at same) ∙ date_parts-open tail stays

-- where another part comes first, these readers find none
number_first-none : (ps : List Part) → kind ps ≢ 6 → kind ps ≢ 1 → number_first (without_blanks ps) ≡ None
unfolding without_blanks
number_first-none (Blank ∷ ps) h k = absurd (h refl)
number_first-none (Number text ∷ ps) h k = absurd (k refl)
number_first-none ps h k = refl

word_first-none : (ps : List Part) → kind ps ≢ 6 → kind ps ≢ 2 → word_first (without_blanks ps) ≡ None
unfolding without_blanks
word_first-none (Blank ∷ ps) h k = absurd (h refl)
word_first-none (Word text ∷ ps) h k = absurd (k refl)
word_first-none ps h k = refl

signed_first-none : (ps : List Part) → kind ps ≢ 6 → kind ps ≢ 3 → signed_first (without_blanks ps) ≡ None
unfolding without_blanks
signed_first-none (Blank ∷ ps) h k = absurd (h refl)
signed_first-none (Signed sign text ∷ ps) h k = absurd (k refl)
signed_first-none ps h k = refl

comma_first-none : (ps : List Part) → kind ps ≢ 6 → kind ps ≢ 4 → comma_first (without_blanks ps) ≡ None
unfolding without_blanks
comma_first-none (Blank ∷ ps) h k = absurd (h refl)
comma_first-none (Comma ∷ ps) h k = absurd (k refl)
comma_first-none ps h k = refl

colon_first-none : (ps : List Part) → kind ps ≢ 6 → kind ps ≢ 5 → colon_first (without_blanks ps) ≡ None
unfolding without_blanks
colon_first-none (Blank ∷ ps) h k = absurd (h refl)
colon_first-none (Colon ∷ ps) h k = absurd (k refl)
colon_first-none ps h k = refl

kind-at_part : (text : List ℕ) → IsAtPart text → kind (text_parts text) ≢ 6
unfolding without_comments parts_of
kind-at_part [] at = omega arith
kind-at_part (b ∷ bs) at = not_blank b _ at.0 at.1 (text_kind b bs at.2)

pub no_number : (text : List ℕ) → IsAtPart text → prefix_len is_ascii_digit text ≡ 0 → number_first (date_parts text) ≡ None
no_number text at h = number_first-none (text_parts text) (kind-at_part text at) (kind-no_digit text h)

pub no_word : (text : List ℕ) → IsAtPart text → prefix_len is_ascii_alphabetic text ≡ 0 → word_first (date_parts text) ≡ None
no_word text at h = word_first-none (text_parts text) (kind-at_part text at) (kind-no_letter text h)

no_sign : (b : ℕ) (bs : List ℕ) → IsAtPart (b ∷ bs) → is_sign b ≡ false → signed_first (date_parts (b ∷ bs)) ≡ None
no_sign b bs at h = signed_first-none (text_parts (b ∷ bs)) (kind-at_part (b ∷ bs) at) (not_signed b _ h (text_kind b bs at.2))

-- a sign with no digit after it is no part of a date
sign_alone : (b : ℕ) (bs : List ℕ) → is_sign b ≡ true → prefix_len is_ascii_digit bs ≡ 0 → signed_first (date_parts (b ∷ bs)) ≡ None
unfolding without_blanks
sign_alone b bs h none = rw (text_parts-sign b bs h, sign_before-other b (text_parts bs) (kind-no_digit bs none)) refl

no_comma : (b : ℕ) (bs : List ℕ) → IsAtPart (b ∷ bs) → b ≢ 44 → comma_first (date_parts (b ∷ bs)) ≡ None
no_comma b bs at h = comma_first-none (text_parts (b ∷ bs)) (kind-at_part (b ∷ bs) at) (not_comma b _ h (text_kind b bs at.2))

no_colon : (b : ℕ) (bs : List ℕ) → IsAtPart (b ∷ bs) → b ≢ 58 → colon_first (date_parts (b ∷ bs)) ≡ None
no_colon b bs at h = colon_first-none (text_parts (b ∷ bs)) (kind-at_part (b ∷ bs) at) (not_colon b _ h (text_kind b bs at.2))

-- a text that begins with a part isn't at its end
some_part : (ps : List Part) → kind ps ≢ 6 → kind ps ≢ 0 → without_blanks ps ≢ []
unfolding without_blanks
some_part [] h k = absurd (k refl)
some_part (Blank ∷ ps) h k = absurd (h refl)
some_part (Number text ∷ ps) h k = λ e. cc
some_part (Word text ∷ ps) h k = λ e. cc
some_part (Signed sign text ∷ ps) h k = λ e. cc
some_part (Comma ∷ ps) h k = λ e. cc
some_part (Colon ∷ ps) h k = λ e. cc
some_part (Other b ∷ ps) h k = λ e. cc

not_end : (b k : ℕ) → ByteKind b k → k ≢ 0
not_end b k w = λ e. grind arith

is_end : (text : List ℕ) → IsAtPart text → (text ≡ []) ⊎ (date_parts text ≢ [])
is_end [] at = inl refl
is_end (b ∷ bs) at = inr (some_part (text_parts (b ∷ bs)) (kind-at_part (b ∷ bs) at) (not_end b _ (text_kind b bs at.2)))

-- what the readers give at a text whose parts are those of `rest`, after blanks and comments
pub number_read : (text rest front back : List ℕ) (n : ℕ) → date_parts text ≡ date_parts rest → n ≡ prefix_len is_ascii_digit rest → n ≢ 0
    → front ≡ take n rest → back ≡ drop n rest → Some (front, date_parts back) ≡ number_first (date_parts text)
number_read text rest front back n same is some front_is back_is =
    rw (front_is, back_is, same, is, date_parts-number rest (omega arith)) refl

pub word_read : (text rest front back : List ℕ) (n : ℕ) → date_parts text ≡ date_parts rest → n ≡ prefix_len is_ascii_alphabetic rest → n ≢ 0
    → front ≡ take n rest → back ≡ drop n rest → Some (front, date_parts back) ≡ word_first (date_parts text)
word_read text rest front back n same is some front_is back_is =
    rw (front_is, back_is, same, is, date_parts-word rest (omega arith)) refl

pub signed_read : (text rest tail front back : List ℕ) (b n : ℕ) → date_parts text ≡ date_parts rest → rest ≡ b ∷ tail → is_sign b ≡ true → n ≡ prefix_len is_ascii_digit tail → n ≢ 0
    → front ≡ take n tail → back ≡ drop n tail → Some (b, front, date_parts back) ≡ signed_first (date_parts text)
signed_read text rest tail front back b n same starts is_sign is some front_is back_is =
    rw (front_is, back_is, same, starts, is, date_parts-signed b tail is_sign (omega arith)) refl

-- at the end of a text they find none
pub signed_first-end : (text rest : List ℕ) → date_parts text ≡ date_parts rest → rest ≡ [] → signed_first (date_parts text) ≡ None
signed_first-end text rest same end = rw (same, end, date_parts-nil) refl

pub comma_first-end : (text rest : List ℕ) → date_parts text ≡ date_parts rest → rest ≡ [] → comma_first (date_parts text) ≡ None
comma_first-end text rest same end = rw (same, end, date_parts-nil) refl

pub colon_first-end : (text rest : List ℕ) → date_parts text ≡ date_parts rest → rest ≡ [] → colon_first (date_parts text) ≡ None
colon_first-end text rest same end = rw (same, end, date_parts-nil) refl

pub sign_missing : (text rest tail : List ℕ) (b : ℕ) → (date_parts text ≡ date_parts rest) × IsAtPart rest → rest ≡ b ∷ tail → is_sign b ≡ false → None ≡ signed_first (date_parts text)
sign_missing text rest tail b at starts h = sym (rw (at.0, starts) (no_sign b tail (rw starts at at.1) h))

pub digits_missing : (text rest tail : List ℕ) (b : ℕ) → date_parts text ≡ date_parts rest → rest ≡ b ∷ tail → is_sign b ≡ true
    → prefix_len is_ascii_digit tail ≡ 0 → None ≡ signed_first (date_parts text)
digits_missing text rest tail b same starts h none = sym (rw (same, starts) (sign_alone b tail h none))

pub comma_missing : (text rest tail : List ℕ) (b : ℕ) → (date_parts text ≡ date_parts rest) × IsAtPart rest → rest ≡ b ∷ tail → b ≢ 44 → None ≡ comma_first (date_parts text)
comma_missing text rest tail b at starts h = sym (rw (at.0, starts) (no_comma b tail (rw starts at at.1) h))

pub comma_read : (text rest tail : List ℕ) (b : ℕ) → date_parts text ≡ date_parts rest → rest ≡ b ∷ tail → b ≡ 44 → Some (date_parts tail) ≡ comma_first (date_parts text)
comma_read text rest tail b same starts h = rw (same, starts, h, date_parts-comma tail) refl

pub colon_missing : (text rest tail : List ℕ) (b : ℕ) → (date_parts text ≡ date_parts rest) × IsAtPart rest → rest ≡ b ∷ tail → b ≢ 58 → None ≡ colon_first (date_parts text)
colon_missing text rest tail b at starts h = sym (rw (at.0, starts) (no_colon b tail (rw starts at at.1) h))

pub colon_read : (text rest tail : List ℕ) (b : ℕ) → date_parts text ≡ date_parts rest → rest ≡ b ∷ tail → b ≡ 58 → Some (date_parts tail) ≡ colon_first (date_parts text)
colon_read text rest tail b same starts h = rw (same, starts, h, date_parts-colon tail) refl

pub at_end : (text rest : List ℕ) (r : Bool) → (date_parts text ≡ date_parts rest) × IsAtPart rest → r ≡ (length rest == 0) → (r ≡ true → date_parts text ≡ []) × (date_parts text ≡ [] → r ≡ true)
at_end text [] r at e = (λ t. rw (at.0, date_parts-nil) refl, λ n. e)
at_end text (b ∷ bs) r at e =
    let not_empty : r ≡ false = e ∙ ne_eqb (length (b ∷ bs)) 0 (λ z. omega arith) in
    (λ t. cc, λ n. elim (is_end (b ∷ bs) at.1) [ inl none ↦ cc | inr some ↦ absurd (some (sym at.0 ∙ n)) ])

-- a list of bytes that all pass a test, at least one of them
pub record IsRun (test : ℕ → Bool) (bytes : List ℕ) : Type 0 where
  pub all : list_all test bytes ≡ true
  pub some : 0 < length bytes

-- bytes that pass a test pass a weaker one
pub all_as : (p q : ℕ → Bool) → ((b : ℕ) → p b ≡ true → q b ≡ true) → (bytes : List ℕ) → list_all p bytes ≡ true → list_all q bytes ≡ true
all_as p q weaker [] h = refl
all_as p q weaker (b ∷ bs) h =
    let both = and_parts (p b) (list_all p bs) h in
    and_from (q b) (list_all q bs) (weaker b both.0) (all_as p q weaker bs both.1)

pub prefix_len-run : (test : ℕ → Bool) (run rest : List ℕ) → list_all test run ≡ true → prefix_len test rest ≡ 0 → prefix_len test (run ++ rest) ≡ length run
prefix_len-run test [] rest all stops = stops
prefix_len-run test (b ∷ bs) rest all stops =
    let both = and_parts (test b) (list_all test bs) all in
    rw (both.0, prefix_len-run test bs rest both.1 stops) (omega arith)

-- digits are a number where no digit follows them
pub number_then : (run rest : List ℕ) → IsRun is_ascii_digit run → prefix_len is_ascii_digit rest ≡ 0 → date_parts (run ++ rest) ≡ Number run ∷ date_parts rest
number_then run rest h stops =
    let long = prefix_len-run is_ascii_digit run rest h.all stops in
    date_parts-number (run ++ rest) (let some = h.some in omega arith) ∙ rw (long, take-append_seam run rest, drop-append_seam run rest) refl

-- letters are a word where no letter follows them
pub word_then : (run rest : List ℕ) → IsRun is_ascii_alphabetic run → prefix_len is_ascii_alphabetic rest ≡ 0 → date_parts (run ++ rest) ≡ Word run ∷ date_parts rest
word_then run rest h stops =
    let long = prefix_len-run is_ascii_alphabetic run rest h.all stops in
    date_parts-word (run ++ rest) (let some = h.some in omega arith) ∙ rw (long, take-append_seam run rest, drop-append_seam run rest) refl

-- digits at the end belong to the sign before them
pub signed_at_end : (sign : ℕ) (run : List ℕ) → is_sign sign ≡ true → IsRun is_ascii_digit run → date_parts (sign ∷ run) ≡ Signed sign run ∷ []
signed_at_end sign run is h =
    let long : prefix_len is_ascii_digit run ≡ length run = rw (append-nil run) at (prefix_len-run is_ascii_digit run [] h.all refl) in
    date_parts-signed sign run is (let some = h.some in omega arith) ∙ rw (long, take-length run, drop-length run, date_parts-nil) refl

-- a run with the mark or the space that follows it
pub name_comma : (run rest : List ℕ) (ps : List Part) → IsRun is_ascii_alphabetic run → date_parts rest ≡ ps → date_parts (run ++ 44 ∷ 32 ∷ rest) ≡ Word run ∷ Comma ∷ ps
name_comma run rest ps h e =
    word_then run (44 ∷ 32 ∷ rest) h refl ∙ ap (λ parts. Word run ∷ parts) (date_parts-comma (32 ∷ rest) ∙ ap (λ parts. Comma ∷ parts) (date_parts-space rest ∙ e))

pub word_space : (run rest : List ℕ) (ps : List Part) → IsRun is_ascii_alphabetic run → date_parts rest ≡ ps → date_parts (run ++ 32 ∷ rest) ≡ Word run ∷ ps
word_space run rest ps h e = word_then run (32 ∷ rest) h refl ∙ ap (λ parts. Word run ∷ parts) (date_parts-space rest ∙ e)

pub number_space : (run rest : List ℕ) (ps : List Part) → IsRun is_ascii_digit run → date_parts rest ≡ ps → date_parts (run ++ 32 ∷ rest) ≡ Number run ∷ ps
number_space run rest ps h e = number_then run (32 ∷ rest) h refl ∙ ap (λ parts. Number run ∷ parts) (date_parts-space rest ∙ e)

pub number_colon : (run rest : List ℕ) (ps : List Part) → IsRun is_ascii_digit run → date_parts rest ≡ ps → date_parts (run ++ 58 ∷ rest) ≡ Number run ∷ Colon ∷ ps
number_colon run rest ps h e =
    number_then run (58 ∷ rest) h refl ∙ ap (λ parts. Number run ∷ parts) (date_parts-colon rest ∙ ap (λ parts. Colon ∷ parts) e)
