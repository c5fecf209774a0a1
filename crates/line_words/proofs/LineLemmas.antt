-- What a line is read as, and when each error comes.
use Rattle.std.proofs.Common.{◌≡◌, ◌≢◌, ◌⊎◌, ◌<◌, ◌≤◌, ℕ, Bool, true, false, List, [], ◌∷◌, length, take, drop, Option, Some, None, Result, Ok, Err, cond, refl, sym, ap, subst, ◌∙◌, inl, inr, ⊎_elim}
use Rattle.std.proofs.lemmas.Bool.{cond-true, cond-false, lt-ltb, le-ltb, cases_lt}
use Rattle.std.specs.List.{prefix_len}
use Rattle.line_words.specs.declared.command.Command.{Command}
use Rattle.line_words.specs.declared.line.CommandLine.{CommandLine}
use Rattle.line_words.specs.declared.line.LineError.{LineError}
use Rattle.line_words.specs.declared.line.LineError.TheVariants.{TooLong, Unknown, OpenQuote, Memory}
use Rattle.line_words.specs.Spellings.{command_of}
use Rattle.line_words.specs.Words.{words_by}
use Rattle.mail_text.specs.Ascii.{is_blank}
use Rattle.line_words.specs.Line.{takes_list, text_of, word_length, command_word, after_word, command_named, command_in, takes_rest, with_words, read_named, reading, IsUnknown, IsOpen, OrMemory, ComesWhere}

pub reading_long : (line : List ℕ) → 65536 < length line → reading line ≡ Err TooLong
unfolding reading
reading_long line long = cond-true _ _ _ (lt-ltb _ _ long)

pub reading_short : (line : List ℕ) → length line ≤ 65536 → reading line ≡ read_named (command_in line) (command_word line) (after_word line)
unfolding reading
reading_short line short = cond-false _ _ _ (le-ltb _ _ short)

abbrev Read : Type 0
Read = Result CommandLine LineError

-- an answer has one error
one_error : (r : Read) (e f : LineError) → r ≡ Err e → r ≡ Err f → e ≡ f
one_error (Ok x) e f one other = absurd (cc)
one_error (Err x) e f one other = cc

-- ---- the command that is named

named_none : (word after : List ℕ) → word ≢ [] → command_of word ≡ None → command_named word after ≡ None
named_none [] after some none = absurd (some refl)
named_none (c ∷ cs) after some none = none

none_named : (word after : List ℕ) → command_named word after ≡ None → (word ≢ []) × (command_of word ≡ None)
none_named [] [] h = absurd (cc)
none_named [] (b ∷ bs) h = absurd (cc)
none_named (c ∷ cs) after h = ((λ e. cc), h)

-- ---- the errors of a line that is short enough

words_error : (t : Bool) (r : CommandLine) (named : Command) (word : List ℕ) (words : Option (List (List ℕ))) (e : LineError)
    → cond t (Ok r) (with_words named word words) ≡ Err e → (t ≡ false) × (words ≡ None) × (e ≡ OpenQuote)
words_error true r named word words e h = absurd (cc)
words_error false r named word None e h = (refl, refl, cc)
words_error false r named word (Some words) e h = absurd (cc)

words_open : (t : Bool) (r : CommandLine) (named : Command) (word : List ℕ) (words : Option (List (List ℕ))) → t ≡ false → words ≡ None → cond t (Ok r) (with_words named word words) ≡ Err OpenQuote
words_open true r named word words other none = absurd (cc)
words_open false r named word None other none = refl
words_open false r named word (Some words) other none = absurd (cc)

record IsOpenBehind (o : Option Command) (after : List ℕ) : Type 0 where
  named : Command
  is_named : o ≡ Some named
  takes_words : takes_rest named ≡ false
  open_quote : words_by (takes_list named) after ≡ None

named_error : (o : Option Command) (word after : List ℕ) (e : LineError) → read_named o word after ≡ Err e → ((o ≡ None) × (e ≡ Unknown word)) ⊎ (IsOpenBehind o after × (e ≡ OpenQuote))
named_error None word after e h = inl (refl, cc)
named_error (Some named) word after e h =
    let parts = words_error (takes_rest named) _ named word (words_by (takes_list named) after) e h in
    inr (record { named = named; is_named = refl; takes_words = parts.0; open_quote = parts.1 }, parts.2)

named_open : (o : Option Command) (word after : List ℕ) (named : Command) → o ≡ Some named → takes_rest named ≡ false
    → words_by (takes_list named) after ≡ None → read_named o word after ≡ Err OpenQuote
named_open o word after named is other none = ap (λ (x : Option Command). read_named x word after) is ∙ words_open (takes_rest named) _ named word (words_by (takes_list named) after) other none

-- ---- the errors of a line

abbrev IsErrorOf : List ℕ → LineError → Type 0
IsErrorOf line e = ((65536 < length line) × (e ≡ TooLong)) ⊎ (((word : List ℕ) × IsUnknown line word × (e ≡ Unknown word)) ⊎ (IsOpen line × (e ≡ OpenQuote)))

error_short : (line : List ℕ) (e : LineError) → length line ≤ 65536 → read_named (command_in line) (command_word line) (after_word line) ≡ Err e → IsErrorOf line e
error_short line e short h =
    elim (named_error (command_in line) (command_word line) (after_word line) e h) [
      | inl x ↦ let none = none_named (command_word line) (after_word line) x.0 in
          inr (inl (command_word line, record { short = short; is = refl; some = none.0; names_none = none.1 }, x.1))
      | inr x ↦ let open_behind = x.0 in inr (inr
          (record { short = short; named = open_behind.named; is_named = open_behind.is_named; takes_words = open_behind.takes_words; open_quote = open_behind.open_quote }, x.1))
    ]

error_of : (line : List ℕ) (e : LineError) → reading line ≡ Err e → IsErrorOf line e
error_of line e h =
    ⊎_elim
    (λ long. inl (long, one_error (reading line) e TooLong h (reading_long line long)))
    (λ short. error_short line e short (sym (reading_short line short) ∙ h))
    (cases_lt 65536 (length line))

unknown_reading : (line word : List ℕ) → IsUnknown line word → reading line ≡ Err (Unknown word)
unknown_reading line word is =
    let none = named_none (command_word line) (after_word line) (λ e. is.some (is.is ∙ e)) (ap command_of (sym is.is) ∙ is.names_none) in
    reading_short line is.short
    ∙ ap (λ (o : Option Command). read_named o (command_word line) (after_word line)) none
    ∙ ap (λ (w : List ℕ). Err (Unknown w)) (sym is.is)

open_reading : (line : List ℕ) → IsOpen line → reading line ≡ Err OpenQuote
open_reading line is = reading_short line is.short ∙ named_open (command_in line) (command_word line) (after_word line) is.named is.is_named is.takes_words is.open_quote

-- ---- from the answer to its errors

comes : (result answer : Read) (e : LineError) (P : Type 0) → OrMemory result answer → e ≢ Memory → (answer ≡ Err e → P) → (P → answer ≡ Err e) → ComesWhere result e P
comes result answer e P (inl same) other to back = ((λ h. to (sym same ∙ h)), (λ p. inl (same ∙ back p)))
comes result answer e P (inr memory) other to back = ((λ h. absurd (other (one_error result e Memory h memory))), (λ p. inr memory))

pub long_comes : (line : List ℕ) (result : Read) → OrMemory result (reading line) → ComesWhere result TooLong (65536 < length line)
long_comes line result answers =
    comes result (reading line) TooLong (65536 < length line) answers (λ e. cc)
    (λ h. elim (error_of line TooLong h) [
      | inl x ↦ x.0
      | inr y ↦ elim y [ inl x ↦ absurd (let e = x.2 in cc) | inr x ↦ absurd (let e = x.1 in cc) ]
    ])
    (reading_long line)

pub unknown_comes : (line : List ℕ) (result : Read) → OrMemory result (reading line) → (word : List ℕ) → ComesWhere result (Unknown word) (IsUnknown line word)
unknown_comes line result answers word =
    comes result (reading line) (Unknown word) (IsUnknown line word) answers (λ e. cc)
    (λ h. elim (error_of line (Unknown word) h) [
      | inl x ↦ absurd (let e = x.1 in cc)
      | inr y ↦ elim y [ inl x ↦ (let e = x.2 in let same : x.0 ≡ word = cc in subst (IsUnknown line) same x.1) | inr x ↦ absurd (let e = x.1 in cc) ]
    ])
    (unknown_reading line word)

pub open_comes : (line : List ℕ) (result : Read) → OrMemory result (reading line) → ComesWhere result OpenQuote (IsOpen line)
open_comes line result answers =
    comes result (reading line) OpenQuote (IsOpen line) answers (λ e. cc)
    (λ h. elim (error_of line OpenQuote h) [
      | inl x ↦ absurd (let e = x.1 in cc)
      | inr y ↦ elim y [ inl x ↦ absurd (let e = x.2 in cc) | inr x ↦ x.0 ]
    ])
    (open_reading line)

-- ---- the parts of the line

pub word_is : (line text word : List ℕ) (blanks k : ℕ) → blanks ≡ prefix_len is_blank line → text ≡ drop blanks line → k ≡ word_length text → word ≡ take k text → word ≡ command_word line
word_is line text word blanks k blanks_is text_is k_is is =
    let same : text ≡ text_of line = text_is ∙ ap (λ (n : ℕ). drop n line) blanks_is in
    is ∙ ap (λ (n : ℕ). take n text) k_is ∙ ap (λ (t : List ℕ). take (word_length t) t) same

pub after_is : (line text after : List ℕ) (blanks k : ℕ) → blanks ≡ prefix_len is_blank line → text ≡ drop blanks line → k ≡ word_length text → after ≡ drop k text → after ≡ after_word line
after_is line text after blanks k blanks_is text_is k_is is =
    let same : text ≡ text_of line = text_is ∙ ap (λ (n : ℕ). drop n line) blanks_is in
    is ∙ ap (λ (n : ℕ). drop n text) k_is ∙ ap (λ (t : List ℕ). drop (word_length t) t) same

pub read_short : (line word after : List ℕ) (o p : Option Command) → length line ≤ 65536 → word ≡ command_word line → after ≡ after_word line
    → o ≡ command_named word after → p ≡ o → read_named p word after ≡ reading line
read_short line word after o p short is_word is_after named same =
    ap (λ (x : Option Command). read_named x word after) (same ∙ named)
    ∙ ap (λ (w : List ℕ). read_named (command_named w after) w after) is_word
    ∙ ap (λ (a : List ℕ). read_named (command_named (command_word line) a) (command_word line) a) is_after
    ∙ sym (reading_short line short)

pub or_memory : (result answer whole : Read) → OrMemory result answer → answer ≡ whole → OrMemory result whole
or_memory result answer whole (inl same) is = inl (same ∙ is)
or_memory result answer whole (inr memory) is = inr memory

pub or_unknown : (e : LineError) (word : List ℕ) (whole : Read) → (e ≡ Unknown word) ⊎ (e ≡ Memory) → Err (Unknown word) ≡ whole → OrMemory (Err e) whole
or_unknown e word whole (inl same) is = inl (ap (λ (x : LineError). Err x) same ∙ is)
or_unknown e word whole (inr memory) is = inr (ap (λ (x : LineError). Err x) memory)
