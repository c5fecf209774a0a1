-- What bytes give at a place of the cut is what their parts give.
use Rattle.std.proofs.Common.{◌≡◌, ℕ, suc, ◌-◌, ◌==◌, ◌&&◌, Bool, true, false, not, ◌||◌, List, [], ◌∷◌, ◌++◌, map, filter, flat_map, Option, Some, cond, refl, sym, ap, ◌∙◌, inl, inr}
use Rattle.std.proofs.lemmas.Bool.{cond-false, eqb-true, or_cases, false≢true}
use Rattle.std.specs.Option.{option_map}
use Rattle.std.specs.List.{onto_first, slice_split}
use Rattle.std.specs.Prelude.{if◌then◌else◌}
use Rattle.line_words.specs.declared.cut.Place.{Place}
use Rattle.line_words.specs.declared.cut.Place.TheVariants.{Between, Word, Escaped, Quoted, Enclosed, InString, Taken}
use Rattle.line_words.specs.Words.{is_quote, Part, blank, plain, escaped, backslash, quoted, enclosed, value_of, is_gap, has_parts, words_in, parts_of, escaped_parts, quoted_parts, enclosed_parts, string_parts, taken_parts, words_by}
use Rattle.line_words.specs.Cutting.{unquoted, enclosed_after, string_after, words_from, joined, gives}
use Rattle.line_words.proofs.WordLemmas.{Words, choose, map-map, map-same, map-id, onto_front, has_first}
use Rattle.mail_text.specs.Ascii.{is_blank}

pub none_of : (x y z : Bool) → not (x || y || z) ≡ true → (x ≡ false) × (y ≡ false) × (z ≡ false)
none_of true y z h = absurd (false≢true h)
none_of false true z h = absurd (false≢true h)
none_of false false true h = absurd (false≢true h)
none_of false false false h = (refl, refl, refl)

pub quote_is_no_blank : (b : ℕ) → is_quote b ≡ true → is_blank b ≡ false
quote_is_no_blank b h = elim (or_cases _ _ h) [ inl e ↦ ap is_blank (eqb-true b 34 e) | inr e ↦ ap is_blank (eqb-true b 39 e) ]

pub quote_is_no_paren : (b : ℕ) → is_quote b ≡ true → (b == 40) ≡ false
quote_is_no_paren b h = elim (or_cases _ _ h) [ inl e ↦ ap (λ (c : ℕ). c == 40) (eqb-true b 34 e) | inr e ↦ ap (λ (c : ℕ). c == 40) (eqb-true b 39 e) ]

-- a test that never holds
pub never : {X : Type 0} (t : Bool) (a b : X) → cond (t && false) a b ≡ b
never true a b = refl
never false a b = refl

-- the words of runs of parts
abbrev pub words_in_runs : List (List Part) → Words
words_in_runs runs = map (flat_map value_of) (filter has_parts runs)

-- the words of runs of parts if a word has begun, to which the first run belongs
abbrev pub begun_runs : List (List Part) → Words
begun_runs [] = [] ∷ []
begun_runs (run ∷ runs) = flat_map value_of run ∷ words_in_runs runs

abbrev pub begun_in : List Part → Words
begun_in parts = begun_runs (slice_split is_gap parts)

onto_words : (part : Part) (runs : List (List Part)) → words_in_runs (onto_first part runs) ≡ joined (value_of part) (begun_runs runs)
onto_words part [] = refl
onto_words part (run ∷ runs) = refl

onto_begun : (part : Part) (runs : List (List Part)) → begun_runs (onto_first part runs) ≡ joined (value_of part) (begun_runs runs)
onto_begun part [] = refl
onto_begun part (run ∷ runs) = refl

-- a part that is no blank is put before the word that is begun
abbrev pub Joins : (List Part → Words) → Type 0
Joins F = (part : Part) (parts : List Part) → is_gap part ≡ false → F (part ∷ parts) ≡ joined (value_of part) (begun_in parts)

words_join : Joins words_in
words_join part parts solid = ap (λ (runs : List (List Part)). words_in_runs runs) (cond-false _ _ _ solid) ∙ onto_words part (slice_split is_gap parts)

begun_join : Joins begun_in
begun_join part parts solid = ap (λ (runs : List (List Part)). begun_runs runs) (cond-false _ _ _ solid) ∙ onto_begun part (slice_split is_gap parts)

onto_one : (b : ℕ) (words : Words) → onto_first b words ≡ joined (b ∷ []) words
onto_one b [] = refl
onto_one b (word ∷ words) = refl

-- a part of one byte
put_before : (F : List Part → Words) → Joins F → (part : Part) (b : ℕ) → is_gap part ≡ false → value_of part ≡ b ∷ []
    → (o : Option Words) (p : Option (List Part)) → o ≡ option_map begun_in p → option_map (onto_first b) o ≡ option_map F (option_map (λ parts. part ∷ parts) p)
put_before F joins part b solid value o p is =
    let G : List Part → Words = λ parts. joined (b ∷ []) (begun_in parts) in
    ap (option_map (onto_first b)) is
    ∙ map-map begun_in (onto_first b) G (λ parts. onto_one b (begun_in parts)) p
    ∙ sym (map-map (λ (parts : List Part). part ∷ parts) F G (λ parts. joins part parts solid ∙ ap (λ (w : List ℕ). joined w (begun_in parts)) value) p)

-- what bytes give at each place
record Same (lists : Bool) (bs : List ℕ) : Type 0 where
  between : words_from lists Between bs ≡ option_map words_in (parts_of lists lists bs)
  word : words_from lists Word bs ≡ option_map begun_in (parts_of lists false bs)
  behind_backslash : (F : List Part → Words) → Joins F → words_from lists Escaped bs ≡ option_map F (escaped_parts lists bs)
  behind_quote : (F : List Part → Words) → Joins F → (quote : ℕ) (run : List ℕ) → option_map (joined run) (words_from lists (Quoted quote) bs) ≡ option_map F (quoted_parts lists quote run bs)
  in_parens : (F : List Part → Words) → Joins F → (more : ℕ) (text : List ℕ) → option_map (joined text) (words_from lists (Enclosed more) bs) ≡ option_map F (enclosed_parts lists more text bs)
  in_string : (F : List Part → Words) → Joins F → (more : ℕ) (text : List ℕ) → option_map (joined text) (words_from lists (InString more) bs) ≡ option_map F (string_parts lists more text bs)
  in_taken : (F : List Part → Words) → Joins F → (more : ℕ) (text : List ℕ) → option_map (joined text) (words_from lists (Taken more) bs) ≡ option_map F (taken_parts lists more text bs)

-- the parts of bytes whose first is no blank
abbrev unquoted_parts : Bool → ℕ → List ℕ → Option (List Part)
unquoted_parts lists b bs = cond (is_quote b) (quoted_parts lists b [] bs) (cond (b == 92) (escaped_parts lists bs) (option_map (λ parts. plain b ∷ parts) (parts_of lists false bs)))

unquoted_same : (lists : Bool) (F : List Part → Words) → Joins F → (b : ℕ) (bs : List ℕ) → Same lists bs → unquoted b (λ place. words_from lists place bs) ≡ option_map F (unquoted_parts lists b bs)
unquoted_same lists F joins b bs later =
    choose (is_quote b) (λ (o : Option Words). o) (option_map F) _ _ _ _ (sym ((has_first lists bs).2 b) ∙ later.behind_quote F joins b [])
    (choose (b == 92) (λ (o : Option Words). o) (option_map F) _ _ _ _ (later.behind_backslash F joins)
    (put_before F joins (plain b) b refl refl (words_from lists Word bs) (parts_of lists false bs) later.word))

-- a parenthesis begins what it encloses
paren_begins : (lists : Bool) (F : List Part → Words) → Joins F → (b : ℕ) (bs : List ℕ) → Same lists bs
    → option_map (onto_first b) (words_from lists (Enclosed 0) bs) ≡ option_map F (enclosed_parts lists 0 (b ∷ []) bs)
paren_begins lists F joins b bs later = map-same (onto_first b) (joined (b ∷ [])) (onto_one b) (words_from lists (Enclosed 0) bs) ∙ later.in_parens F joins 0 (b ∷ [])

-- a blank ends the word
blank_ends : (lists : Bool) (b : ℕ) (bs : List ℕ) → Same lists bs
    → option_map (λ words. [] ∷ words) (words_from lists Between bs) ≡ option_map begun_in (option_map (λ parts. blank b ∷ parts) (parts_of lists lists bs))
blank_ends lists b bs later =
    let G : List Part → Words = λ parts. [] ∷ words_in parts in
    ap (option_map (λ (words : Words). [] ∷ words)) later.between
    ∙ map-map words_in (λ (words : Words). [] ∷ words) G (λ parts. refl) (parts_of lists lists bs)
    ∙ sym (map-map (λ (parts : List Part). blank b ∷ parts) begun_in G (λ parts. refl) (parts_of lists lists bs))

-- a part ends, and its word goes on
part_ends : (lists : Bool) (F : List Part → Words) → Joins F → (part : Part) (run bs : List ℕ) → is_gap part ≡ false → value_of part ≡ run
    → Same lists bs → option_map (joined run) (words_from lists Word bs) ≡ option_map F (option_map (λ parts. part ∷ parts) (parts_of lists false bs))
part_ends lists F joins part run bs solid value later =
    let G : List Part → Words = λ parts. joined run (begun_in parts) in
    ap (option_map (joined run)) later.word
    ∙ map-map begun_in (joined run) G (λ parts. refl) (parts_of lists false bs)
    ∙ sym (map-map (λ (parts : List Part). part ∷ parts) F G (λ parts. joins part parts solid ∙ ap (λ (w : List ℕ). joined w (begun_in parts)) value) (parts_of lists false bs))

-- a byte goes to the front of a word that is begun
put_behind : (text : List ℕ) (b : ℕ) (o : Option Words) → option_map (joined text) (option_map (onto_first b) o) ≡ option_map (joined (text ++ b ∷ [])) o
put_behind text b o = map-map (onto_first b) (joined text) (joined (text ++ b ∷ [])) (onto_front text b) o

parens_same : (lists : Bool) (F : List Part → Words) → Joins F → (more : ℕ) (text : List ℕ) (b : ℕ) (bs : List ℕ) → Same lists bs
    → option_map (joined text) (words_from lists (Enclosed more) (b ∷ bs)) ≡ option_map F (enclosed_parts lists more text (b ∷ bs))
unfolding words_from enclosed_parts
parens_same lists F joins more text b bs later =
    let whole = text ++ b ∷ [] in
    let G = λ (place : Place). option_map (joined whole) (words_from lists place bs) in
    put_behind text b (words_from lists (enclosed_after more b) bs)
    ∙ choose (b == 34) G (option_map F) _ _ _ _ (later.in_string F joins more whole)
    (choose (b == 40) G (option_map F) _ _ _ _ (later.in_parens F joins (suc more) whole)
    (choose (b == 41 && more == 0) G (option_map F) _ _ _ _ (part_ends lists F joins (enclosed whole) whole bs refl refl later) (later.in_parens F joins (if b == 41 then more - 1 else more) whole)))

string_same : (lists : Bool) (F : List Part → Words) → Joins F → (more : ℕ) (text : List ℕ) (b : ℕ) (bs : List ℕ) → Same lists bs
    → option_map (joined text) (words_from lists (InString more) (b ∷ bs)) ≡ option_map F (string_parts lists more text (b ∷ bs))
unfolding words_from string_parts
string_same lists F joins more text b bs later =
    let whole = text ++ b ∷ [] in
    let G = λ (place : Place). option_map (joined whole) (words_from lists place bs) in
    put_behind text b (words_from lists (string_after more b) bs)
    ∙ choose (b == 34) G (option_map F) _ _ _ _ (later.in_parens F joins more whole)
    (choose (b == 92) G (option_map F) _ _ _ _ (later.in_taken F joins more whole) (later.in_string F joins more whole))

same : (lists : Bool) (bs : List ℕ) → Same lists bs
unfolding words_from parts_of escaped_parts quoted_parts enclosed_parts string_parts taken_parts
same lists [] = record {
  between = refl;
  word = refl;
  behind_backslash = λ F joins. ap (λ (words : Words). Some words) (sym (joins backslash [] refl));
  behind_quote = λ F joins quote run. refl;
  in_parens = λ F joins more text. ap (λ (words : Words). Some words) (sym (joins (enclosed text) [] refl));
  in_string = λ F joins more text. refl;
  in_taken = λ F joins more text. refl;
}
same lists (b ∷ bs) =
    let later = same lists bs in record {
      between = choose (is_blank b) (λ (o : Option Words). o) (option_map words_in) _ _ _ _
          (later.between ∙ sym (map-map (λ (parts : List Part). blank b ∷ parts) words_in words_in (λ parts. refl) (parts_of lists lists bs)))
          (choose (b == 40 && lists) (λ (o : Option Words). o) (option_map words_in) _ _ _ _
          (paren_begins lists words_in words_join b bs later)
          (unquoted_same lists words_in words_join b bs later));
      word = choose (is_blank b) (λ (o : Option Words). o) (option_map begun_in) _ _ _ _ (blank_ends lists b bs later)
          (unquoted_same lists begun_in begun_join b bs later ∙ sym (ap (option_map begun_in) (never (b == 40) _ _)));
      behind_backslash = λ F joins. put_before F joins (escaped b) b refl refl (words_from lists Word bs) (parts_of lists false bs) later.word;
      behind_quote = λ F joins quote run. choose (b == quote) (option_map (joined run)) (option_map F) _ _ _ _
          (part_ends lists F joins (quoted quote run) run bs refl refl later)
          (put_behind run b (words_from lists (Quoted quote) bs) ∙ later.behind_quote F joins quote (run ++ b ∷ []));
      in_parens = λ F joins more text. parens_same lists F joins more text b bs later;
      in_string = λ F joins more text. string_same lists F joins more text b bs later;
      in_taken = λ F joins more text. put_behind text b (words_from lists (InString more) bs) ∙ later.in_string F joins more (text ++ b ∷ []);
    }

pub words_are : (lists : Bool) (line : List ℕ) → words_from lists Between line ≡ words_by lists line
unfolding words_by
words_are lists line = (same lists line).between

-- at the front nothing is read yet
pub gives_all : (lists : Bool) (bs : List ℕ) → gives lists Between [] [] bs ≡ words_by lists bs
gives_all lists bs = map-id (words_from lists Between bs) ∙ words_are lists bs
