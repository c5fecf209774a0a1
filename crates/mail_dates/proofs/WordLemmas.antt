-- Words between blanks, and what stands between colons.
use Rattle.std.proofs.Common.{◌≡◌, ◌==◌, ℕ, suc, ◌+◌, ◌<◌, not, List, [], ◌∷◌, length, take, drop, inl, inr, refl, sym, ap, ◌∙◌, arith, None, Some}
use Rattle.std.proofs.lemmas.Bool.{cases_Bool, cases_lt, lt-ltb, le-ltb}
use Rattle.std.proofs.lemmas.List.Sums.{prefix_len-le-length}
use Rattle.std.proofs.lemmas.List.Splits.{slice_split_first, slice_split-cons_yes, slice_split-cons_no, length-slice_split}
use Rattle.std.proofs.lemmas.Iterator.Adapters.{position_from-zero}
use Rattle.std.specs.List.{prefix_len, position_from, position_or_len, slice_split, onto_first}
use Rattle.mail_dates.specs.FromLines.{words_of, clock_of}
use Rattle.mail_text.specs.Ascii.{is_blank}

one_more : (n : ℕ) → 1 + n ≡ suc n
one_more n = omega arith

-- how many blanks, and how many bytes of a word, stand at the front
abbrev pub blanks : List ℕ → ℕ
blanks text = prefix_len is_blank text

abbrev pub in_word : List ℕ → ℕ
in_word text = prefix_len (λ b. not (is_blank b)) text

-- blanks at the front make no word
words_of-blanks : (text : List ℕ) → words_of (drop (blanks text) text) ≡ words_of text
unfolding words_of
words_of-blanks [] = refl
words_of-blanks (b ∷ bs) =
    elim (cases_Bool (is_blank b)) [
      | inl blank ↦ rw (blank, one_more (blanks bs)) (words_of-blanks bs)
      | inr other ↦ let none : blanks (b ∷ bs) ≡ 0 = rw other refl in rw none refl
    ]

-- after the blanks at the front no blank stands
blanks-behind : (text : List ℕ) → blanks (drop (blanks text) text) ≡ 0
blanks-behind [] = refl
blanks-behind (b ∷ bs) =
    elim (cases_Bool (is_blank b)) [
      | inl blank ↦ let more : blanks (b ∷ bs) ≡ suc (blanks bs) = rw blank (one_more (blanks bs)) in rw more (blanks-behind bs)
      | inr other ↦ let none : blanks (b ∷ bs) ≡ 0 = rw other refl in rw none none
    ]

-- a word and what follows it are the first piece and the others
record Cut (text : List ℕ) : Type 0 where
  others : List (List ℕ)
  behind : slice_split is_blank (drop (in_word text) text) ≡ [] ∷ others
  whole : slice_split is_blank text ≡ take (in_word text) text ∷ others

cut : (text : List ℕ) → Cut text
cut [] = record { others = []; behind = refl; whole = refl }
cut (b ∷ bs) =
    elim (cases_Bool (is_blank b)) [
      | inl blank ↦
          let none : in_word (b ∷ bs) ≡ 0 = rw blank refl in
          let ends = slice_split-cons_yes is_blank b bs blank in
          record { others = slice_split is_blank bs; behind = rw none ends; whole = rw none ends }
      | inr other ↦
          let more : in_word (b ∷ bs) ≡ suc (in_word bs) = rw other (one_more (in_word bs)) in
          let rest = cut bs in
          record { others = rest.others; behind = rw more rest.behind; whole = rw more (slice_split-cons_no is_blank b bs other ∙ ap (onto_first b) rest.whole) }
    ]

-- a word at the front is the first word
pub words_of-word : (text : List ℕ) → 0 < in_word text → words_of text ≡ take (in_word text) text ∷ words_of (drop (in_word text) text)
unfolding words_of
words_of-word [] h = absurd (omega arith)
words_of-word (b ∷ bs) h =
    elim (cases_Bool (is_blank b)) [
      | inl blank ↦ absurd (let none : in_word (b ∷ bs) ≡ 0 = rw blank refl in omega arith)
      | inr other ↦
          let more : in_word (b ∷ bs) ≡ suc (in_word bs) = rw other (one_more (in_word bs)) in
          let c = cut (b ∷ bs) in
          rw (c.whole, c.behind, more) refl
    ]

-- a text that begins with no blank and no word is empty
no_word_left : (text : List ℕ) → blanks text ≡ 0 → in_word text ≡ 0 → text ≡ []
no_word_left [] h k = refl
no_word_left (b ∷ bs) h k =
    elim (cases_Bool (is_blank b)) [
      | inl blank ↦ absurd (let more : blanks (b ∷ bs) ≡ suc (blanks bs) = rw blank (one_more (blanks bs)) in omega arith)
      | inr other ↦ absurd (let more : in_word (b ∷ bs) ≡ suc (in_word bs) = rw other (one_more (in_word bs)) in omega arith)
    ]

-- a reader of words finds the first word after the blanks
pub word_read : (text rest front back : List ℕ) (n : ℕ) → rest ≡ drop (blanks text) text → n ≡ in_word rest → (n ≡ 0 → ⊥)
    → front ≡ take n rest → back ≡ drop n rest → words_of text ≡ front ∷ words_of back
word_read text rest front back n is count some front_is back_is =
    rw (front_is, back_is, count, ← words_of-blanks text, ← is, words_of-word rest (omega arith)) refl

pub no_word : (text rest : List ℕ) (n : ℕ) → rest ≡ drop (blanks text) text → n ≡ in_word rest → n ≡ 0 → words_of text ≡ []
unfolding words_of
no_word text rest n is count none =
    let empty : rest ≡ [] = no_word_left rest (rw is (blanks-behind text)) (omega arith) in
    let behind : words_of text ≡ words_of rest = sym (words_of-blanks text) ∙ ap words_of (sym is) in
    let no_words : words_of rest ≡ [] = rw empty refl in
    behind ∙ no_words

-- the place of the first colon, or the length where there is none
abbrev colon_or_end : List ℕ → ℕ
colon_or_end text = position_or_len (λ b. b == 58) text

place_or_end : (text : List ℕ) → colon_or_end text < length text → position_from (λ b. b == 58) 0 text ≡ Some (colon_or_end text)
place_or_end text h = sym (position_from-zero (λ b. b == 58) text) ∙ rw (lt-ltb (colon_or_end text) (length text) h) refl

no_place : (text : List ℕ) → length text ≡ colon_or_end text → position_from (λ b. b == 58) 0 text ≡ None
no_place text h = sym (position_from-zero (λ b. b == 58) text) ∙ rw (le-ltb (colon_or_end text) (length text) (omega arith)) refl

same_place : (m n : ℕ) → Some m ≡ Some n → m ≡ n
same_place m n e = cc

-- a text is cut at its first colon
pub colon_at : (text : List ℕ) (n : ℕ) → Some n ≡ position_from (λ b. b == 58) 0 text
    → slice_split (λ b. b == 58) text ≡ take n text ∷ slice_split (λ b. b == 58) (drop (n + 1) text)
colon_at text n h =
    elim (cases_lt (colon_or_end text) (length text)) [
      | inl found ↦
          let same : n ≡ colon_or_end text = same_place _ _ (h ∙ place_or_end text found) in
          rw same (slice_split_first (λ b. b == 58) text 0 found)
      | inr none ↦
          let missing = no_place text (let within = prefix_len-le-length (λ b. not (b == 58)) text in omega arith) in
          absurd cc
    ]

no_colon_from : (text : List ℕ) (i : ℕ) → None ≡ position_from (λ b. b == 58) i text → slice_split (λ b. b == 58) text ≡ text ∷ []
no_colon_from [] i h = refl
no_colon_from (b ∷ bs) i h =
    elim (cases_Bool (b == 58)) [
      | inl colon ↦ absurd (let found = rw colon at h in cc)
      | inr other ↦ slice_split-cons_no (λ b. b == 58) b bs other ∙ ap (onto_first b) (no_colon_from bs (i + 1) (rw other at h))
    ]

pub no_colon : (text : List ℕ) → None ≡ position_from (λ b. b == 58) 0 text → slice_split (λ b. b == 58) text ≡ text ∷ []
no_colon text h = no_colon_from text 0 h

four_parts : (hour minute second : List ℕ) (parts : List (List ℕ)) → 0 < length parts → clock_of (hour ∷ minute ∷ second ∷ parts) ≡ None
four_parts hour minute second [] h = absurd (omega arith)
four_parts hour minute second (part ∷ parts) h = refl

-- a third colon is one too many
pub third_colon : (word rest behind hour minute second after : List ℕ) → slice_split (λ b. b == 58) word ≡ hour ∷ slice_split (λ b. b == 58) rest
    → slice_split (λ b. b == 58) rest ≡ minute ∷ slice_split (λ b. b == 58) behind → slice_split (λ b. b == 58) behind ≡ second ∷ slice_split (λ b. b == 58) after
    → None ≡ clock_of (slice_split (λ b. b == 58) word)
third_colon word rest behind hour minute second after e f g =
    rw (e, f, g) (sym (four_parts hour minute second _ (omega (arith, length-slice_split (λ b. b == 58) after))))
