-- A value has one list of tokens.
use Rattle.std.proofs.Common.{◌≡◌, ◌≢◌, ℕ, ◌+◌, Bool, true, false, ◌==◌, if◌then◌else◌, List, [], ◌∷◌, ◌++◌, Option, Some, None, inl, inr, refl, sym, ap, ◌∙◌, length, take, drop, append_assoc, add-one}
use Rattle.std.specs.List.{list_all, list_any}
use Rattle.std.proofs.lemmas.Bool.{and_parts, or_parts, cond-true, cond-false, eqb-true, ne_eqb, false≢true, false_from_ne_true, or_cases, or_from, cases_Bool}
use Rattle.std.proofs.lemmas.List.{append-nil, take_at, drop_at}
use Rattle.mail_addresses.specs.Lexical.{is_blank_byte, is_special, is_atom_byte, IsCommentContent, IsQuotedContent, IsLiteralContent, NeverEnds, Lexeme, blanks, comment, atom, quoted, literal, mark, unclosed, text_of, texts, begins, IsRun, NeverCloses, IsToken, StandBefore, AreTokens}
use Rattle.mail_addresses.specs.Lexical.NeverCloses.{comment_open, quote_open, literal_open}
use Rattle.mail_addresses.specs.Tokens.{close, unquote, Step, step, enclosed, count_while, one_more, find_byte, run_step, first_step}
use Rattle.mail_addresses.proofs.ListLemmas.{cut_here, empty_front}
use Rattle.mail_addresses.proofs.Closing.{comment_found, comment_place}
use Rattle.mail_addresses.proofs.Quoting.{quoted_found, quoted_place}
use Rattle.mail_addresses.proofs.TokenLemmas.{token_some}

count_while_run : (p : ℕ → Bool) (run rest : List ℕ) → list_all p run ≡ true → begins p rest ≡ false → count_while p (run ++ rest) ≡ length run
unfolding count_while
count_while_run p [] [] h e = refl
count_while_run p [] (b ∷ bs) h e = cond-false _ _ _ e
count_while_run p (b ∷ run) rest h e =
    let parts = and_parts _ _ h in
    cond-true _ _ _ parts.0 ∙ ap (λ n. n + 1) (count_while_run p run rest parts.1 e) ∙ add-one (length run)

run_is : (make : List ℕ → Lexeme) (p : ℕ → Bool) (run rest : List ℕ) → IsRun p run rest → run_step make p (run ++ rest) ≡ step (make run) rest
unfolding run_step
run_is make p run rest is =
    let n = count_while_run p run rest is.all is.ends in
    ap (λ k. step (make (take k (run ++ rest))) (drop k (run ++ rest))) n
    ∙ ap (λ (xs : List ℕ). step (make xs) (drop (length run) (run ++ rest))) (take_at run rest (length run) refl)
    ∙ ap (λ (xs : List ℕ). step (make run) xs) (drop_at run rest (length run) refl)

find_byte_at : (p : ℕ → Bool) (front back : List ℕ) (m : ℕ) → list_any p front ≡ false → p m ≡ true → find_byte p (front ++ m ∷ back) ≡ Some (length front)
unfolding find_byte one_more
find_byte_at p [] back m h e = cond-true _ _ _ e
find_byte_at p (b ∷ front) back m h e =
    let parts = or_parts _ _ h in
    cond-false _ _ _ parts.0 ∙ ap one_more (find_byte_at p front back m parts.1 e) ∙ ap (λ n. Some n) (add-one (length front))

record FoundByte (bs : List ℕ) (n : ℕ) : Type 0 where
  front : List ℕ
  back : List ℕ
  whole : bs ≡ front ++ 93 ∷ back
  none : IsLiteralContent front

find_later : (b n : ℕ) (bs : List ℕ) (o : Option ℕ) → ((k : ℕ) → o ≡ Some k → FoundByte bs k) → one_more o ≡ Some n → (b == 93) ≡ false → FoundByte (b ∷ bs) n
unfolding one_more
find_later b n bs None found more e = absurd (cc)
find_later b n bs (Some k) found more e =
    let f = found k refl in
    record { front = b ∷ f.front; back = f.back; whole = ap (λ (xs : List ℕ). b ∷ xs) f.whole; none = or_from _ _ e f.none }

find_byte_found : (bs : List ℕ) (n : ℕ) → find_byte (λ c. c == 93) bs ≡ Some n → FoundByte bs n
unfolding find_byte
find_byte_found [] n h = absurd (cc)
find_byte_found (b ∷ bs) n h =
    elim (cases_Bool (b == 93)) [
      | inl e ↦ record { front = []; back = bs; whole = ap (λ c. c ∷ bs) (eqb-true b 93 e); none = refl }
      | inr e ↦ find_later b n bs (find_byte (λ c. c == 93) bs) (λ k is. find_byte_found bs k is) (sym (cond-false _ _ _ e) ∙ h) e
    ]

enclosed_is : (make : List ℕ → Lexeme) (whole bs content rest : List ℕ) (last : ℕ) (end : Option ℕ) → bs ≡ content ++ last ∷ rest
    → end ≡ Some (length content) → enclosed make whole bs end ≡ step (make content) rest
unfolding enclosed
enclosed_is make whole bs content rest last end e h =
    let cut = cut_here bs content rest last (length content) e refl in
    ap (enclosed make whole bs) h ∙ ap (λ (xs : List ℕ). step (make xs) (drop (length content + 1) bs)) cut.1 ∙ ap (λ (xs : List ℕ). step (make content) xs) cut.2

-- what stands before the closing byte and after it
closed_text : (content rest : List ℕ) (last : ℕ) → (content ++ last ∷ []) ++ rest ≡ content ++ last ∷ rest
closed_text content rest last = append_assoc content (last ∷ []) rest

comment_step : (inside rest : List ℕ) → IsCommentContent inside → first_step (40 ∷ ((inside ++ 41 ∷ []) ++ rest)) ≡ step (comment inside) rest
unfolding first_step
comment_step inside rest is =
    let bs = (inside ++ 41 ∷ []) ++ rest in
    let e = closed_text inside rest 41 in
    enclosed_is comment (40 ∷ bs) bs inside rest 41 (close false 0 0 bs) e (ap (close false 0 0) e ∙ comment_place is rest)

quoted_step : (inside rest : List ℕ) → IsQuotedContent inside → first_step (34 ∷ ((inside ++ 34 ∷ []) ++ rest)) ≡ step (quoted inside) rest
unfolding first_step
quoted_step inside rest is =
    let bs = (inside ++ 34 ∷ []) ++ rest in
    let e = closed_text inside rest 34 in
    enclosed_is quoted (34 ∷ bs) bs inside rest 34 (unquote false 0 bs) e (ap (unquote false 0) e ∙ quoted_place is rest)

literal_step : (inside rest : List ℕ) → IsLiteralContent inside → first_step (91 ∷ ((inside ++ 93 ∷ []) ++ rest)) ≡ step (literal inside) rest
unfolding first_step
literal_step inside rest is =
    let bs = (inside ++ 93 ∷ []) ++ rest in
    let e = closed_text inside rest 93 in
    enclosed_is literal (91 ∷ bs) bs inside rest 93 (find_byte (λ c. c == 93) bs) e (ap (find_byte (λ c. c == 93)) e ∙ find_byte_at (λ c. c == 93) inside rest 93 is refl)

-- a first byte that opens nothing
plain_step : (b : ℕ) (bs : List ℕ) → b ≢ 40 → b ≢ 34 → b ≢ 91
    → first_step (b ∷ bs) ≡ (if is_blank_byte b then run_step blanks is_blank_byte (b ∷ bs) else (if is_atom_byte b then run_step atom is_atom_byte (b ∷ bs) else step (mark b) bs))
unfolding first_step
plain_step b bs p q r = cond-false _ _ _ (ne_eqb b 40 p) ∙ cond-false _ _ _ (ne_eqb b 34 q) ∙ cond-false _ _ _ (ne_eqb b 91 r)

blank_opens_nothing : (b : ℕ) → is_blank_byte b ≡ true → (b ≢ 40) × (b ≢ 34) × (b ≢ 91)
unfolding is_blank_byte
blank_opens_nothing b h = (λ e. false≢true (ap is_blank_byte (sym e) ∙ h), λ e. false≢true (ap is_blank_byte (sym e) ∙ h), λ e. false≢true (ap is_blank_byte (sym e) ∙ h))

atom_opens_nothing : (b : ℕ) → is_atom_byte b ≡ true → (b ≢ 40) × (b ≢ 34) × (b ≢ 91)
unfolding is_atom_byte is_special
atom_opens_nothing b h = (λ e. false≢true (ap is_atom_byte (sym e) ∙ h), λ e. false≢true (ap is_atom_byte (sym e) ∙ h), λ e. false≢true (ap is_atom_byte (sym e) ∙ h))

pub atom_no_blank : (b : ℕ) → is_atom_byte b ≡ true → is_blank_byte b ≡ false
unfolding is_atom_byte is_special is_blank_byte
atom_no_blank b h = false_from_ne_true (is_blank_byte b) (λ t. elim (or_cases _ _ t) [
  | inl e ↦ false≢true (ap is_atom_byte (sym (eqb-true b 32 e)) ∙ h)
  | inr e ↦ false≢true (ap is_atom_byte (sym (eqb-true b 9 e)) ∙ h)
])

blanks_step : (run rest : List ℕ) → IsRun is_blank_byte run rest → first_step (run ++ rest) ≡ step (blanks run) rest
blanks_step [] rest is = absurd (is.some refl)
blanks_step (b ∷ run) rest is =
    let blank = (and_parts _ _ is.all).0 in
    let plain = blank_opens_nothing b blank in
    plain_step b (run ++ rest) plain.0 plain.1 plain.2 ∙ cond-true _ _ _ blank ∙ run_is blanks is_blank_byte (b ∷ run) rest is

atom_step : (run rest : List ℕ) → IsRun is_atom_byte run rest → first_step (run ++ rest) ≡ step (atom run) rest
atom_step [] rest is = absurd (is.some refl)
atom_step (b ∷ run) rest is =
    let atom_byte = (and_parts _ _ is.all).0 in
    let plain = atom_opens_nothing b atom_byte in
    plain_step b (run ++ rest) plain.0 plain.1 plain.2 ∙ cond-false _ _ _ (atom_no_blank b atom_byte) ∙ cond-true _ _ _ atom_byte ∙ run_is atom is_atom_byte (b ∷ run) rest is

never_comment : (bs : List ℕ) (end : Option ℕ) → close false 0 0 bs ≡ end → NeverEnds IsCommentContent 41 bs → enclosed comment (40 ∷ bs) bs end ≡ step (unclosed (40 ∷ bs)) []
unfolding enclosed
never_comment bs None e never = refl
never_comment bs (Some k) e never = let found = comment_found bs k e in absurd (never _ _ found.1 found.2)

never_quote : (bs : List ℕ) (end : Option ℕ) → unquote false 0 bs ≡ end → NeverEnds IsQuotedContent 34 bs → enclosed quoted (34 ∷ bs) bs end ≡ step (unclosed (34 ∷ bs)) []
unfolding enclosed
never_quote bs None e never = refl
never_quote bs (Some k) e never = let found = quoted_found bs k e in absurd (never _ _ found.1 found.2)

never_bracket : (bs : List ℕ) (end : Option ℕ) → find_byte (λ c. c == 93) bs ≡ end → NeverEnds IsLiteralContent 93 bs → enclosed literal (91 ∷ bs) bs end ≡ step (unclosed (91 ∷ bs)) []
unfolding enclosed
never_bracket bs None e never = refl
never_bracket bs (Some k) e never = let found = find_byte_found bs k e in absurd (never found.front found.back found.none found.whole)

unclosed_step : (text : List ℕ) → NeverCloses text → first_step text ≡ step (unclosed text) []
unfolding first_step enclosed
unclosed_step [] never = elim never [ ]
unclosed_step (b ∷ bs) (comment_open never) = never_comment bs (close false 0 0 bs) refl never
unclosed_step (b ∷ bs) (quote_open never) = never_quote bs (unquote false 0 bs) refl never
unclosed_step (b ∷ bs) (literal_open never) = never_bracket bs (find_byte (λ c. c == 93) bs) refl never

-- a token that stands rightly is the first one
pub first_is : (t : Lexeme) (rest : List ℕ) → IsToken t rest → first_step (text_of t ++ rest) ≡ step t rest
first_is (blanks run) rest is = blanks_step run rest is
first_is (comment inside) rest is = comment_step inside rest is
first_is (atom run) rest is = atom_step run rest is
first_is (quoted inside) rest is = quoted_step inside rest is
first_is (literal inside) rest is = literal_step inside rest is
first_is (mark b) rest (blank, atom_byte, p, q, r) = plain_step b rest p q r ∙ cond-false _ _ _ blank ∙ cond-false _ _ _ atom_byte
first_is (unclosed text) rest (never, e) =
    ap (λ (xs : List ℕ). first_step (text ++ xs)) e ∙ ap first_step (append-nil text) ∙ unclosed_step text never ∙ ap (step (unclosed text)) (sym e)

abbrev after_first : Lexeme → List Lexeme → List ℕ
after_first t ts = text_of t ++ (texts ts ++ [])

texts_first : (t : Lexeme) (ts : List Lexeme) → texts (t ∷ ts) ++ [] ≡ after_first t ts
unfolding texts
texts_first t ts = append_assoc (text_of t) (texts ts) []

stand_unique : (ts us : List Lexeme) → StandBefore ts [] → StandBefore us [] → texts ts ++ [] ≡ texts us ++ [] → ts ≡ us
unfolding texts
stand_unique [] [] h k e = refl
stand_unique [] (u ∷ us) h k e = absurd (token_some u (texts us ++ []) k.0 (empty_front (text_of u) (texts us ++ []) (sym (texts_first u us) ∙ sym e)))
stand_unique (t ∷ ts) [] h k e = absurd (token_some t (texts ts ++ []) h.0 (empty_front (text_of t) (texts ts ++ []) (sym (texts_first t ts) ∙ e)))
stand_unique (t ∷ ts) (u ∷ us) h k e =
    let same : step t (texts ts ++ []) ≡ step u (texts us ++ []) =
    sym (first_is t (texts ts ++ []) h.0) ∙ ap first_step (sym (texts_first t ts) ∙ e ∙ texts_first u us) ∙ first_is u (texts us ++ []) k.0 in
    ap (λ (x : Lexeme). x ∷ ts) (ap (λ (s : Step). s.token) same) ∙ ap (λ (xs : List Lexeme). u ∷ xs) (stand_unique ts us h.1 k.1 (ap (λ (s : Step). s.rest) same))

-- one list of tokens
pub tokens_unique : (value : List ℕ) (ts us : List Lexeme) → AreTokens value ts → AreTokens value us → ts ≡ us
tokens_unique value ts us p q = stand_unique ts us p.stand q.stand (ap (λ (xs : List ℕ). xs ++ []) (p.joined ∙ sym q.joined))
