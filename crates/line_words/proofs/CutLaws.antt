-- A line is cut into its parts alone, and a line that has none has an open quote.
use Rattle.std.proofs.Common.{◌≡◌, ℕ, ◌==◌, ◌&&◌, Bool, true, false, List, [], ◌∷◌, ◌++◌, Option, Some, None, refl, sym, ap, subst, ◌∙◌, inl, inr, append_assoc, append-nil}
use Rattle.std.proofs.lemmas.Bool.{cond-true, cond-false, eq-eqb, and_parts, not-true}
use Rattle.std.specs.Option.{option_map}
use Rattle.line_words.specs.Words.{is_quote, lacks, Part, blank, plain, escaped, backslash, quoted, enclosed, text_of, is_gap, IsPart, StandBefore, AreParts, words_in, IsCut, takes_after, OpensQuote, HasOpenQuote, parts_of, escaped_parts, quoted_parts, enclosed_parts, words_by}
use Rattle.line_words.specs.Laws.{WordsAreCut, UncutHasNone, OpenHasNone, CutsAreOne}
use Rattle.line_words.proofs.EnclosedLemmas.{begun_read, enclosed_read, open_string_read}
use Rattle.line_words.proofs.EndLemmas.{Ends, all_end}
use Rattle.line_words.proofs.WordLemmas.{Words, map-map, map-id}
use Rattle.line_words.proofs.PartLemmas.{none_of, quote_is_no_blank, quote_is_no_paren}
use Rattle.mail_text.specs.Ascii.{is_blank}

-- ---- parts are read as they stand

quoted_read : (lists : Bool) (quote : ℕ) (front run after : List ℕ) → lacks quote run ≡ true
    → quoted_parts lists quote front ((run ++ quote ∷ []) ++ after) ≡ option_map (λ parts. quoted quote (front ++ run) ∷ parts) (parts_of lists false after)
unfolding quoted_parts
quoted_read lists quote front [] after lacking =
    cond-true _ _ _ (eq-eqb quote quote refl)
    ∙ ap (λ (r : List ℕ). option_map (λ (parts : List Part). quoted quote r ∷ parts) (parts_of lists false after)) (sym (append-nil front))
quoted_read lists quote front (b ∷ run) after lacking =
    let both = and_parts _ _ lacking in
    cond-false _ _ _ (not-true _ both.0)
    ∙ quoted_read lists quote (front ++ b ∷ []) run after both.1
    ∙ ap (λ (r : List ℕ). option_map (λ (parts : List Part). quoted quote r ∷ parts) (parts_of lists false after)) (append_assoc front (b ∷ []) run)

unclosed_read : (lists : Bool) (quote : ℕ) (front run : List ℕ) → lacks quote run ≡ true → quoted_parts lists quote front run ≡ None
unfolding quoted_parts
unclosed_read lists quote front [] lacking = refl
unclosed_read lists quote front (b ∷ run) lacking =
    let both = and_parts _ _ lacking in
    cond-false _ _ _ (not-true _ both.0) ∙ unclosed_read lists quote (front ++ b ∷ []) run both.1

part_read : (lists takes : Bool) (part : Part) (after : List ℕ) → IsPart takes part after
    → parts_of lists takes (text_of part ++ after) ≡ option_map (λ parts. part ∷ parts) (parts_of lists (is_gap part && lists) after)
unfolding parts_of escaped_parts quoted_parts enclosed_parts
part_read lists takes (blank b) after is = cond-true _ _ _ is
part_read lists takes (plain b) after (is, other) =
    let not_it = none_of (is_blank b) (is_quote b) (b == 92) is in
    cond-false _ _ _ not_it.0 ∙ cond-false _ _ _ other ∙ cond-false _ _ _ not_it.1 ∙ cond-false _ _ _ not_it.2
part_read lists takes (escaped b) after is = refl
part_read lists takes backslash after is =
    let P : List ℕ → Type 0 = λ bytes. parts_of lists takes (92 ∷ bytes) ≡ option_map (λ parts. backslash ∷ parts) (parts_of lists false bytes) in
    subst P (sym is) refl
part_read lists takes (quoted quote run) after (is, lacking) =
    cond-false _ _ _ (quote_is_no_blank quote is)
    ∙ cond-false _ _ _ (ap (λ (t : Bool). t && takes) (quote_is_no_paren quote is))
    ∙ cond-true _ _ _ is ∙ quoted_read lists quote [] run after lacking
part_read lists takes (enclosed text) after (taken, inl whole) = ap (λ (t : Bool). parts_of lists t (text ++ after)) taken ∙ enclosed_read lists text after whole
part_read lists takes (enclosed text) after (taken, inr (begun, last)) =
    let P : List ℕ → Type 0 = λ bytes. parts_of lists true (text ++ bytes) ≡ option_map (λ parts. enclosed text ∷ parts) (parts_of lists false bytes) in
    ap (λ (t : Bool). parts_of lists t (text ++ after)) taken ∙ subst P (sym last) ((begun_read begun lists).1 [])

stand_read : (lists takes : Bool) (bytes : List ℕ) (parts : List Part) (rest : List ℕ) → StandBefore lists takes bytes parts rest
    → parts_of lists takes bytes ≡ option_map (λ more. parts ++ more) (parts_of lists (takes_after lists takes parts) rest)
stand_read lists takes bytes [] rest is = ap (parts_of lists takes) is ∙ sym (map-id (parts_of lists takes rest))
stand_read lists takes bytes (part ∷ parts) rest (after, is, fits, later) =
    let left = parts_of lists (takes_after lists (is_gap part && lists) parts) rest in
    ap (parts_of lists takes) is
    ∙ part_read lists takes part after fits
    ∙ ap (option_map (λ (more : List Part). part ∷ more)) (stand_read lists (is_gap part && lists) after parts rest later)
    ∙ map-map (λ (more : List Part). parts ++ more) (λ (more : List Part). part ∷ more) (λ (more : List Part). part ∷ (parts ++ more)) (λ more. refl) left

nothing_left : (lists takes : Bool) → parts_of lists takes [] ≡ Some []
unfolding parts_of
nothing_left lists takes = refl

cut_read : (lists : Bool) (line : List ℕ) (parts : List Part) → AreParts lists line parts → parts_of lists lists line ≡ Some parts
cut_read lists line parts are =
    stand_read lists lists line parts [] are
    ∙ ap (option_map (λ (more : List Part). parts ++ more)) (nothing_left lists (takes_after lists lists parts))
    ∙ ap (λ (all : List Part). Some all) (append-nil parts)

quote_read : (lists takes : Bool) (bytes : List ℕ) → OpensQuote takes bytes → parts_of lists takes bytes ≡ None
unfolding parts_of
quote_read lists takes bytes (inl (quote, (run, is, lacking, same))) =
    ap (parts_of lists takes) same
    ∙ cond-false _ _ _ (quote_is_no_blank quote is)
    ∙ cond-false _ _ _ (ap (λ (t : Bool). t && takes) (quote_is_no_paren quote is))
    ∙ cond-true _ _ _ is ∙ unclosed_read lists quote [] run lacking
quote_read lists takes bytes (inr (taken, (text, (run, begun, unclosed, same)))) =
    let read = begun_read begun lists in
    ap (parts_of lists takes) same
    ∙ ap (λ (t : Bool). parts_of lists t (text ++ 34 ∷ run)) taken
    ∙ read.1 (34 ∷ run) ∙ open_string_read lists read.0 text run unclosed

open_read : (lists : Bool) (line : List ℕ) → HasOpenQuote lists line → parts_of lists lists line ≡ None
open_read lists line o =
    stand_read lists lists line o.parts o.rest o.stand
    ∙ ap (option_map (λ (more : List Part). o.parts ++ more)) (quote_read lists (takes_after lists lists o.parts) o.rest o.opens)

-- ---- the laws

some_words : (lists : Bool) (line : List ℕ) (words : Words) → IsCut lists line words → words_by lists line ≡ Some words
unfolding words_by
some_words lists line words (parts, are, is) = ap (option_map words_in) (cut_read lists line parts are) ∙ ap (λ (all : Words). Some all) (sym is)

no_words : (lists : Bool) (line : List ℕ) → HasOpenQuote lists line → words_by lists line ≡ None
unfolding words_by
no_words lists line o = ap (option_map words_in) (open_read lists line o)

same_words : (o : Option Words) (words others : Words) → o ≡ Some words → o ≡ Some others → words ≡ others
same_words o words others one other = cc

never_both : (o : Option Words) (words : Words) → o ≡ Some words → o ≡ None → ⊥
never_both o words some none = cc

cut_of : (lists : Bool) (line : List ℕ) (words : Words) → words_by lists line ≡ Some words → Ends lists lists line → IsCut lists line words
cut_of lists line words given (inl (parts, are)) = (parts, are, same_words _ _ _ given (some_words lists line (words_in parts) (parts, are, refl)))
cut_of lists line words given (inr o) = absurd (never_both _ _ given (no_words lists line o))

none_where_uncut : (lists : Bool) (line : List ℕ) → ((words : Words) → IsCut lists line words → ⊥) → Ends lists lists line → words_by lists line ≡ None
none_where_uncut lists line uncut (inl (parts, are)) = absurd (uncut (words_in parts) (parts, are, refl))
none_where_uncut lists line uncut (inr o) = no_words lists line o

open_where_none : (lists : Bool) (line : List ℕ) → words_by lists line ≡ None → Ends lists lists line → HasOpenQuote lists line
open_where_none lists line none (inl (parts, are)) = absurd (never_both _ _ (some_words lists line (words_in parts) (parts, are, refl)) none)
open_where_none lists line none (inr o) = o

pub words_are_cut : WordsAreCut
words_are_cut lists line words = (λ given. cut_of lists line words given ((all_end lists line).plainly lists), some_words lists line words)

pub uncut_has_none : UncutHasNone
uncut_has_none lists line =
    (λ none words cut. never_both _ _ (some_words lists line words cut) none, λ uncut. none_where_uncut lists line uncut ((all_end lists line).plainly lists))

pub open_has_none : OpenHasNone
open_has_none lists line = (λ none. open_where_none lists line none ((all_end lists line).plainly lists), no_words lists line)

pub cuts_are_one : CutsAreOne
cuts_are_one lists line words others cut other = same_words _ _ _ (some_words lists line words cut) (some_words lists line others other)
