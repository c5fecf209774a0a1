-- Words that are written one after the other are cut into these words again.
use Rattle.std.proofs.Common.{◌≡◌, ℕ, Bool, true, false, ◌==◌, ◌&&◌, List, [], ◌∷◌, ◌++◌, Option, Some, refl, sym, ap, ◌∙◌, inl, inr, append_assoc, append-nil}
use Rattle.std.proofs.lemmas.Bool.{cond-true, cond-false, eq-eqb, and_parts, not-true}
use Rattle.std.specs.Option.{option_map}
use Rattle.std.specs.List.{list_all, onto_first}
use Rattle.line_words.specs.declared.cut.Place.TheVariants.{Between, Word, Quoted}
use Rattle.line_words.specs.Words.{is_quote, is_plain, lacks}
use Rattle.mail_text.specs.Ascii.{is_blank}
use Rattle.line_words.specs.Cutting.{words_from, joined}
use Rattle.line_words.specs.Laws.{begins_enclosed, Writes, WritesAll, WordsReadBack}
use Rattle.line_words.proofs.WordLemmas.{Words, map-map, has_first}
use Rattle.line_words.proofs.PartLemmas.{none_of, quote_is_no_blank, quote_is_no_paren, words_are}

onto_joined : (b : ℕ) (word : List ℕ) (left : Words) → onto_first b (joined word left) ≡ joined (b ∷ word) left
onto_joined b word [] = refl
onto_joined b word (rest ∷ words) = refl

-- a byte that is put before what a word gives
put_before : (b : ℕ) (word : List ℕ) (o p : Option Words) → p ≡ option_map (joined word) o → option_map (onto_first b) p ≡ option_map (joined (b ∷ word)) o
put_before b word o p is = ap (option_map (onto_first b)) is ∙ map-map (joined word) (onto_first b) (joined (b ∷ word)) (onto_joined b word) o

plain_byte : (lists : Bool) (b : ℕ) (bs : List ℕ) → is_plain b ≡ true → words_from lists Word (b ∷ bs) ≡ option_map (onto_first b) (words_from lists Word bs)
unfolding words_from
plain_byte lists b bs plain =
    let not_it = none_of (is_blank b) (is_quote b) (b == 92) plain in
    cond-false _ _ _ not_it.0 ∙ cond-false _ _ _ not_it.1 ∙ cond-false _ _ _ not_it.2

plain_written : (lists : Bool) (word rest : List ℕ) → list_all is_plain word ≡ true → words_from lists Word (word ++ rest) ≡ option_map (joined word) (words_from lists Word rest)
plain_written lists [] rest plain = sym (has_first lists rest).0
plain_written lists (b ∷ bs) rest plain =
    let both = and_parts _ _ plain in
    plain_byte lists b (bs ++ rest) both.0 ∙ put_before b bs (words_from lists Word rest) _ (plain_written lists bs rest both.1)

-- a plain byte begins a word
begun_plain : (lists : Bool) (b : ℕ) (bs : List ℕ) → is_plain b ≡ true → (b == 40 && lists) ≡ false → words_from lists Between (b ∷ bs) ≡ words_from lists Word (b ∷ bs)
unfolding words_from
begun_plain lists b bs plain other =
    let not_it = none_of (is_blank b) (is_quote b) (b == 92) plain in
    cond-false _ _ _ not_it.0 ∙ cond-false _ _ _ other ∙ sym (cond-false _ _ _ not_it.0)

quoted_written : (lists : Bool) (quote : ℕ) (word rest : List ℕ) → lacks quote word ≡ true
    → words_from lists (Quoted quote) (word ++ quote ∷ rest) ≡ option_map (joined word) (words_from lists Word rest)
unfolding words_from
quoted_written lists quote [] rest lacking = cond-true _ _ _ (eq-eqb quote quote refl) ∙ sym (has_first lists rest).0
quoted_written lists quote (b ∷ bs) rest lacking =
    let both = and_parts _ _ lacking in
    cond-false _ _ _ (not-true _ both.0) ∙ put_before b bs (words_from lists Word rest) _ (quoted_written lists quote bs rest both.1)

-- a quote begins what is quoted
begun_quoted : (lists : Bool) (b : ℕ) (bs : List ℕ) → is_quote b ≡ true → words_from lists Between (b ∷ bs) ≡ words_from lists (Quoted b) bs
unfolding words_from
begun_quoted lists b bs is = cond-false _ _ _ (quote_is_no_blank b is) ∙ cond-false _ _ _ (ap (λ (t : Bool). t && lists) (quote_is_no_paren b is)) ∙ cond-true _ _ _ is

written_plain : (lists : Bool) (word rest : List ℕ) → (word ≡ [] → ⊥) → list_all is_plain word ≡ true → (begins_enclosed word && lists) ≡ false
    → words_from lists Between (word ++ rest) ≡ option_map (joined word) (words_from lists Word rest)
written_plain lists [] rest some plain other = absurd (some refl)
written_plain lists (b ∷ bs) rest some plain other = begun_plain lists b (bs ++ rest) (and_parts _ _ plain).0 other ∙ plain_written lists (b ∷ bs) rest plain

written : (lists : Bool) (text word rest : List ℕ) → Writes lists text word → words_from lists Between (text ++ rest) ≡ option_map (joined word) (words_from lists Word rest)
written lists text word rest (inl (is, some, plain, other)) = ap (λ (t : List ℕ). words_from lists Between (t ++ rest)) is ∙ written_plain lists word rest some plain other
written lists text word rest (inr (quote, is_quote_byte, lacking, is)) =
    ap (λ (t : List ℕ). words_from lists Between (t ++ rest)) is
    ∙ begun_quoted lists quote ((word ++ quote ∷ []) ++ rest) is_quote_byte
    ∙ ap (words_from lists (Quoted quote)) (append_assoc word (quote ∷ []) rest)
    ∙ quoted_written lists quote word rest lacking

no_bytes : (lists : Bool) → words_from lists Between [] ≡ Some []
unfolding words_from
no_bytes lists = refl

word_ends : (lists : Bool) → words_from lists Word [] ≡ Some ([] ∷ [])
unfolding words_from
word_ends lists = refl

space_ends : (lists : Bool) (bs : List ℕ) → words_from lists Word (32 ∷ bs) ≡ option_map (λ words. [] ∷ words) (words_from lists Between bs)
unfolding words_from
space_ends lists bs = refl

read_back : (lists : Bool) (words : Words) (line : List ℕ) → WritesAll lists line words → words_from lists Between line ≡ Some words
read_back lists [] line is = ap (words_from lists Between) is ∙ no_bytes lists
read_back lists (word ∷ []) line is =
    ap (words_from lists Between) (sym (append-nil line))
    ∙ written lists line word [] is
    ∙ ap (option_map (joined word)) (word_ends lists)
    ∙ ap (λ (w : List ℕ). Some (w ∷ [])) (append-nil word)
read_back lists (word ∷ other ∷ words) line (text, (rest, is, writes, others)) =
    ap (words_from lists Between) is
    ∙ written lists text word (32 ∷ rest) writes
    ∙ ap (option_map (joined word)) (space_ends lists rest ∙ ap (option_map (λ (ws : Words). [] ∷ ws)) (read_back lists (other ∷ words) rest others))
    ∙ ap (λ (w : List ℕ). Some (w ∷ other ∷ words)) (append-nil word)

pub words_read_back : WordsReadBack
words_read_back lists line words written_so = sym (words_are lists line) ∙ read_back lists words line written_so
