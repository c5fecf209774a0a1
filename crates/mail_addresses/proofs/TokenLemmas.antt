-- The tokens of a value: how the first one is found, and that they are put one after another.
use Rattle.std.proofs.Common.{◌≡◌, ◌≢◌, ℕ, ◌+◌, ◌<◌, true, ◌==◌, List, [], ◌∷◌, ◌++◌, Option, Some, None, MatchOption, refl, sym, ap, ◌∙◌, length, drop, take, arith, subst, append_assoc, length-append, inl, inr}
use Rattle.std.specs.List.{list_any}
use Rattle.std.proofs.lemmas.Bool.{cases_eq, eqb-true, or_right, both_ways}
use Rattle.std.proofs.lemmas.List.{append-nil, take_all, nil_from_length}
use Rattle.memchr.specs.Find.{IsFirstByte, is_byte}
use Rattle.mail_addresses.specs.Lexical.{Lexeme, blanks, comment, atom, quoted, literal, mark, unclosed, text_of, texts, IsToken, StandBefore, IsLiteralContent, NeverEnds, IsEnd, NeverCloses}
use Rattle.mail_addresses.specs.Lexical.NeverCloses.{comment_open, quote_open, literal_open}
use Rattle.mail_addresses.proofs.ListLemmas.{none_before, cut_at}

-- a closing bracket stands in the bytes
has_bracket : (inside after : List ℕ) → list_any (λ b. b == 93) (inside ++ 93 ∷ after) ≡ true
has_bracket [] after = refl
has_bracket (b ∷ inside) after = or_right _ _ (has_bracket inside after)

-- what `memchr` says of the closing bracket
pub literal_end_is : (xs : List ℕ) (end : Option ℕ) → IsFirstByte (is_byte 93) xs end → IsEnd IsLiteralContent 93 xs end
literal_end_is xs None h = λ inside after content e. both_ways _
    (ap (list_any (λ b. b == 93)) (sym (take_all (length xs) xs (omega arith))) ∙ none_before (λ b. b == 93) xs (length xs) (omega arith) (λ j lt t. h j (omega arith) lt t))
    (ap (list_any (λ b. b == 93)) e ∙ has_bracket inside after)
literal_end_is xs (Some n) h = (
  h.0.high,
  none_before (λ b. b == 93) xs n (omega (arith, h.0.high)) (λ j lt t. h.0.before j (omega arith) lt t),
  cut_at xs n 93 h.0.high (eqb-true _ _ h.1),
)

abbrev Begins : List ℕ → Lexeme → List ℕ → Type 0
Begins whole t rest = (whole ≡ text_of t ++ rest) × IsToken t rest

-- a token that is given by its content, its closing byte and the rest
enclosed_text : (whole inside content rest : List ℕ) (first last : ℕ) → whole ≡ first ∷ inside → inside ≡ content ++ last ∷ rest → whole ≡ (first ∷ (content ++ last ∷ [])) ++ rest
enclosed_text whole inside content rest first last e f =
    e ∙ ap (λ (xs : List ℕ). first ∷ xs) (f ∙ sym (append_assoc content (last ∷ []) rest))

unclosed_begins : (whole rest : List ℕ) (t : Lexeme) → NeverCloses whole → t ≡ unclosed whole → rest ≡ [] → Begins whole t rest
unclosed_begins whole rest t never e f =
    let here : Begins whole (unclosed whole) [] = (sym (append-nil whole), (never, refl)) in
    subst (λ r. Begins whole t r) (sym f) (subst (λ u. Begins whole u []) (sym e) here)

closed_begins : (whole after rest : List ℕ) (t u : Lexeme) → whole ≡ text_of u ++ after → IsToken u after → t ≡ u → rest ≡ after → Begins whole t rest
closed_begins whole after rest t u e is f g =
    let here : Begins whole u after = (e, is) in
    subst (λ r. Begins whole t r) (sym g) (subst (λ v. Begins whole v after) (sym f) here)

-- a token that encloses such content begins the bytes after its opening byte, up to the end of the content or as unclosed
pub enclosed_begins : (IsContent : List ℕ → Type 0) (make : List ℕ → Lexeme) (first last : ℕ)
    → ((content : List ℕ) → text_of (make content) ≡ first ∷ (content ++ last ∷ [])) → ((content rest : List ℕ) → IsContent content → IsToken (make content) rest)
    → (whole inside rest : List ℕ) (end : Option ℕ) (t : Lexeme) → whole ≡ first ∷ inside → (NeverEnds IsContent last inside → NeverCloses (first ∷ inside))
    → IsEnd IsContent last inside end → MatchOption end ((t ≡ unclosed whole) × (rest ≡ [])) (λ n. (t ≡ make (take n inside)) × (rest ≡ drop (n + 1) inside))
    → (whole ≡ text_of t ++ rest) × IsToken t rest
enclosed_begins IsContent make first last text token whole inside rest None t e never h r =
    unclosed_begins whole rest t (subst NeverCloses (sym e) (never h)) r.0 r.1
enclosed_begins IsContent make first last text token whole inside rest (Some n) t e never h r =
    closed_begins whole (drop (n + 1) inside) rest t (make (take n inside))
    (enclosed_text whole inside (take n inside) (drop (n + 1) inside) first last e h.2 ∙ ap (λ (xs : List ℕ). xs ++ drop (n + 1) inside) (sym (text (take n inside))))
    (token (take n inside) (drop (n + 1) inside) h.1) r.0 r.1

pub texts-append : (ts us : List Lexeme) → texts (ts ++ us) ≡ texts ts ++ texts us
unfolding texts
texts-append [] us = refl
texts-append (t ∷ ts) us = ap (λ (xs : List ℕ). text_of t ++ xs) (texts-append ts us) ∙ sym (append_assoc (text_of t) (texts ts) (texts us))

pub texts-one : (t : Lexeme) → texts (t ∷ []) ≡ text_of t
unfolding texts
texts-one t = append-nil (text_of t)

-- one more token
pub stand_push : (ts : List Lexeme) (t : Lexeme) (rest after : List ℕ) → StandBefore ts rest → rest ≡ text_of t ++ after → IsToken t after → StandBefore (ts ++ t ∷ []) after
unfolding texts
stand_push [] t rest after h e is = (is, tt)
stand_push (u ∷ ts) t rest after h e is =
    let more : texts ts ++ rest ≡ texts (ts ++ t ∷ []) ++ after =
    ap (λ (xs : List ℕ). texts ts ++ xs) e ∙ sym (append_assoc (texts ts) (text_of t) after)
    ∙ ap (λ (xs : List ℕ). xs ++ after) (ap (λ (xs : List ℕ). texts ts ++ xs) (sym (texts-one t)) ∙ sym (texts-append ts (t ∷ []))) in
    (subst (IsToken u) more h.0, stand_push ts t rest after h.1 e is)

pub joined_push : (ts : List Lexeme) (t : Lexeme) (value rest after : List ℕ) → texts ts ++ rest ≡ value → rest ≡ text_of t ++ after → texts (ts ++ t ∷ []) ++ after ≡ value
joined_push ts t value rest after h e =
    ap (λ (xs : List ℕ). xs ++ after) (texts-append ts (t ∷ []) ∙ ap (λ (xs : List ℕ). texts ts ++ xs) (texts-one t))
    ∙ append_assoc (texts ts) (text_of t) after ∙ ap (λ (xs : List ℕ). texts ts ++ xs) (sym e) ∙ h

never_nil : (text : List ℕ) → NeverCloses text → text ≢ []
never_nil [] never e = elim never [ ]
never_nil (b ∷ bs) (comment_open h) e = cc
never_nil (b ∷ bs) (quote_open h) e = cc
never_nil (b ∷ bs) (literal_open h) e = cc

-- a token has bytes
pub token_some : (t : Lexeme) (rest : List ℕ) → IsToken t rest → text_of t ≢ []
token_some (blanks run) rest is e = is.some e
token_some (comment inside) rest is e = cc
token_some (atom run) rest is e = is.some e
token_some (quoted inside) rest is e = cc
token_some (literal inside) rest is e = cc
token_some (mark b) rest is e = cc
token_some (unclosed text) rest is e = never_nil text is.0 e

-- what is left is less
pub token_less : (t : Lexeme) (rest after : List ℕ) → rest ≡ text_of t ++ after → IsToken t after → length after < length rest
token_less t rest after e is =
    let longer : length rest ≡ length (text_of t) + length after = ap length e ∙ length-append (text_of t) after in
    elim (cases_eq (length (text_of t)) 0) [
      | inl z ↦ absurd (token_some t after is (nil_from_length (text_of t) z))
      | inr n ↦ omega arith
    ]
