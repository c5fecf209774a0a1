-- Tokens at the front of bytes.
use Rattle.std.proofs.Common.{◌≡◌, ◌≢◌, ℕ, suc, ◌+◌, ◌<◌, ◌≤◌, ◌==◌, Bool, true, false, cond, List, [], ◌∷◌, ◌++◌, length, take, drop, get_or, refl, sym, ap, ◌∙◌, subst, append_assoc, ⊎_elim, arith}
use Rattle.std.proofs.lemmas.Bool.{cond-true, cond-false, cases_Bool, eq-eqb, ne_eqb}
use Rattle.std.proofs.lemmas.List.{append-nil, at_drop_more, at_drop_all}
use Rattle.std.specs.List.{prefix_len}
use Rattle.mail_text.specs.Ascii.{is_blank}
use Rattle.mail_search.specs.Tokens.{Token, opener, closer, gap, run, quoted, bad, Place, outside, inside, taken, is_run_byte, run_before, quoted_before, tokens_from}

-- the first token is a string, or one that nothing closes
abbrev BeginsString : List Token → Type 0
BeginsString (quoted bs ∷ ts) = Unit {0}
BeginsString (bad ∷ ts) = Unit {0}
BeginsString ts = ⊥

BeginsString-quoted_before : (b : ℕ) (ts : List Token) → BeginsString ts → BeginsString (quoted_before b ts)
BeginsString-quoted_before b [] h = h
BeginsString-quoted_before b (opener ∷ ts) h = h
BeginsString-quoted_before b (closer ∷ ts) h = h
BeginsString-quoted_before b (gap ∷ ts) h = h
BeginsString-quoted_before b (run bs ∷ ts) h = h
BeginsString-quoted_before b (quoted bs ∷ ts) h = tt
BeginsString-quoted_before b (bad ∷ ts) h = tt

-- inside of quotes a string comes first, also after a backslash
in_string : (bs : List ℕ) → BeginsString (tokens_from inside bs) × BeginsString (tokens_from taken bs)
unfolding tokens_from
in_string [] = (tt, tt)
in_string (b ∷ bs) =
    let ih = in_string bs in (
      ⊎_elim
          (λ t. subst BeginsString (sym (cond-true _ _ _ t)) ih.1)
          (λ e. subst BeginsString (sym (cond-false _ _ _ e))
          (⊎_elim
          (λ t. subst BeginsString (sym (cond-true _ _ _ t)) tt)
          (λ f. subst BeginsString (sym (cond-false _ _ _ f)) (BeginsString-quoted_before b _ ih.0))
          (cases_Bool (b == 34))))
          (cases_Bool (b == 92)),
      BeginsString-quoted_before b _ ih.0,
    )

run_before-string : (b : ℕ) (ts : List Token) → BeginsString ts → run_before b ts ≡ run (b ∷ []) ∷ ts
run_before-string b [] h = absurd h
run_before-string b (opener ∷ ts) h = absurd h
run_before-string b (closer ∷ ts) h = absurd h
run_before-string b (gap ∷ ts) h = absurd h
run_before-string b (run bs ∷ ts) h = absurd h
run_before-string b (quoted bs ∷ ts) h = refl
run_before-string b (bad ∷ ts) h = refl

-- the tokens of bytes that don't begin with a byte of a run
abbrev other_tokens : ℕ → List ℕ → List Token
other_tokens b bs = cond (b == 34) (tokens_from inside bs)
    (cond (b == 40) (opener ∷ tokens_from outside bs) (cond (b == 41) (closer ∷ tokens_from outside bs) (cond (is_blank b) (gap ∷ tokens_from outside bs) (bad ∷ tokens_from outside bs))))

pub tokens-run : (b : ℕ) (bs : List ℕ) → is_run_byte b ≡ true → tokens_from outside (b ∷ bs) ≡ run_before b (tokens_from outside bs)
unfolding tokens_from
tokens-run b bs t = cond-true _ _ _ t

tokens-other : (b : ℕ) (bs : List ℕ) → is_run_byte b ≡ false → tokens_from outside (b ∷ bs) ≡ other_tokens b bs
unfolding tokens_from
tokens-other b bs e = cond-false _ _ _ e

-- no run begins with another byte
run_before-other : (a b : ℕ) (bs : List ℕ) → run_before a (other_tokens b bs) ≡ run (a ∷ []) ∷ other_tokens b bs
run_before-other a b bs =
    let P = λ (ts : List Token). run_before a ts ≡ run (a ∷ []) ∷ ts in
    ⊎_elim
    (λ t. subst P (sym (cond-true _ _ _ t)) (run_before-string a _ (in_string bs).0))
    (λ e. subst P (sym (cond-false _ _ _ e))
    (⊎_elim
    (λ t. subst P (sym (cond-true _ _ _ t)) refl)
    (λ f. subst P (sym (cond-false _ _ _ f))
    (⊎_elim
    (λ t. subst P (sym (cond-true _ _ _ t)) refl)
    (λ g. subst P (sym (cond-false _ _ _ g))
    (⊎_elim
    (λ t. subst P (sym (cond-true _ _ _ t)) refl)
    (λ h. subst P (sym (cond-false _ _ _ h)) refl)
    (cases_Bool (is_blank b))))
    (cases_Bool (b == 41))))
    (cases_Bool (b == 40))))
    (cases_Bool (b == 34))

abbrev run_length : List ℕ → ℕ
run_length bs = prefix_len is_run_byte bs

-- a run is as long as its bytes go on
run_front : (a : ℕ) (bs : List ℕ) → run_before a (tokens_from outside bs) ≡ run (a ∷ take (run_length bs) bs) ∷ tokens_from outside (drop (run_length bs) bs)
unfolding tokens_from
run_front a [] = refl
run_front a (b ∷ bs) =
    ⊎_elim
    (λ t.
    let more : run_length (b ∷ bs) ≡ suc (run_length bs) = cond-true _ _ _ t ∙ omega arith in
    ap (run_before a) (tokens-run b bs t ∙ run_front b bs)
    ∙ ap (λ (n : ℕ). run (a ∷ take n (b ∷ bs)) ∷ tokens_from outside (drop n (b ∷ bs))) (sym more))
    (λ e.
    let none : run_length (b ∷ bs) ≡ 0 = cond-false _ _ _ e in
    ap (run_before a) (tokens-other b bs e) ∙ run_before-other a b bs ∙ ap (λ (ts : List Token). run (a ∷ []) ∷ ts) (sym (tokens-other b bs e))
    ∙ ap (λ (n : ℕ). run (a ∷ take n (b ∷ bs)) ∷ tokens_from outside (drop n (b ∷ bs))) (sym none))
    (cases_Bool (is_run_byte b))

-- what `plain_token` gives
pub run_token : (b : ℕ) (after front rest : List ℕ) (n : ℕ) → is_run_byte b ≡ true → n ≡ run_length after → front ≡ take (1 + n) (b ∷ after) → rest ≡ drop (1 + n) (b ∷ after)
    → tokens_from outside (b ∷ after) ≡ run front ∷ tokens_from outside rest
run_token b after front rest n t count front_is rest_is =
    let one : 1 + n ≡ suc n = omega arith in
    let f : front ≡ b ∷ take n after = front_is ∙ ap (λ (k : ℕ). take k (b ∷ after)) one in
    let r : rest ≡ drop n after = rest_is ∙ ap (λ (k : ℕ). drop k (b ∷ after)) one in
    tokens-run b after t ∙ run_front b after
    ∙ ap (λ (k : ℕ). run (b ∷ take k after) ∷ tokens_from outside (drop k after)) (sym count)
    ∙ ap (λ (l : List ℕ). run l ∷ tokens_from outside (drop n after)) (sym f)
    ∙ ap (λ (l : List ℕ). run front ∷ tokens_from outside l) (sym r)

pub gap_token : (b : ℕ) (after : List ℕ) → is_run_byte b ≡ false → b ≢ 34 → b ≢ 40 → b ≢ 41 → is_blank b ≡ true → tokens_from outside (b ∷ after) ≡ gap ∷ tokens_from outside after
gap_token b after e q o c t =
    tokens-other b after e ∙ cond-false _ _ _ (ne_eqb b 34 q) ∙ cond-false _ _ _ (ne_eqb b 40 o) ∙ cond-false _ _ _ (ne_eqb b 41 c) ∙ cond-true _ _ _ t

pub bad_token : (b : ℕ) (after : List ℕ) → is_run_byte b ≡ false → b ≢ 34 → b ≢ 40 → b ≢ 41 → is_blank b ≡ false → tokens_from outside (b ∷ after) ≡ bad ∷ tokens_from outside after
bad_token b after e q o c f =
    tokens-other b after e ∙ cond-false _ _ _ (ne_eqb b 34 q) ∙ cond-false _ _ _ (ne_eqb b 40 o) ∙ cond-false _ _ _ (ne_eqb b 41 c) ∙ cond-false _ _ _ f

pub open_token : (after : List ℕ) → tokens_from outside (40 ∷ after) ≡ opener ∷ tokens_from outside after
unfolding tokens_from
open_token after = refl

pub close_token : (after : List ℕ) → tokens_from outside (41 ∷ after) ≡ closer ∷ tokens_from outside after
unfolding tokens_from
close_token after = refl

pub quote_token : (after : List ℕ) → tokens_from outside (34 ∷ after) ≡ tokens_from inside after
unfolding tokens_from
quote_token after = refl

pub tokens-nil : tokens_from outside [] ≡ []
unfolding tokens_from
tokens-nil = refl

-- bytes before the string that the first token is
abbrev pub strung : List ℕ → List Token → List Token
strung out (quoted bs ∷ ts) = quoted (out ++ bs) ∷ ts
strung out ts = ts

-- inside of quotes, right after a backslash or not
abbrev pub string_place : Bool → Place
string_place true = taken
string_place false = inside

strung-byte : (out : List ℕ) (b : ℕ) (ts : List Token) → strung out (quoted_before b ts) ≡ strung (out ++ b ∷ []) ts
strung-byte out b [] = refl
strung-byte out b (opener ∷ ts) = refl
strung-byte out b (closer ∷ ts) = refl
strung-byte out b (gap ∷ ts) = refl
strung-byte out b (run bs ∷ ts) = refl
strung-byte out b (quoted bs ∷ ts) = ap (λ (l : List ℕ). quoted l ∷ ts) (sym (append_assoc out (b ∷ []) bs))
strung-byte out b (bad ∷ ts) = refl

-- the string so far, and the tokens of what is left at place i
abbrev pub strung_at : List ℕ → Bool → ℕ → List ℕ → List Token
strung_at out escaped i bs = strung out (tokens_from (string_place escaped) (drop i bs))

at_place : (out : List ℕ) (escaped : Bool) (i : ℕ) (bs : List ℕ) → i < length bs → strung_at out escaped i bs ≡ strung out (tokens_from (string_place escaped) (get_or bs i 0 ∷ drop (i + 1) bs))
at_place out escaped i bs lt = at_drop_more (λ l. strung out (tokens_from (string_place escaped) l)) bs i 0 lt

escaped_byte : (out : List ℕ) (b : ℕ) (bs : List ℕ) → strung out (tokens_from taken (b ∷ bs)) ≡ strung (out ++ b ∷ []) (tokens_from inside bs)
unfolding tokens_from
escaped_byte out b bs = strung-byte out b (tokens_from inside bs)

plain_byte : (out : List ℕ) (b : ℕ) (bs : List ℕ) → b ≢ 92 → b ≢ 34 → strung out (tokens_from inside (b ∷ bs)) ≡ strung (out ++ b ∷ []) (tokens_from inside bs)
unfolding tokens_from
plain_byte out b bs e q = ap (strung out) (cond-false _ _ _ (ne_eqb b 92 e) ∙ cond-false _ _ _ (ne_eqb b 34 q)) ∙ strung-byte out b (tokens_from inside bs)

backslash : (b : ℕ) (bs : List ℕ) → b ≡ 92 → tokens_from inside (b ∷ bs) ≡ tokens_from taken bs
unfolding tokens_from
backslash b bs e = cond-true _ _ _ (eq-eqb b 92 e)

last_quote : (b : ℕ) (bs : List ℕ) → b ≢ 92 → b ≡ 34 → tokens_from inside (b ∷ bs) ≡ quoted [] ∷ tokens_from outside bs
unfolding tokens_from
last_quote b bs e q = cond-false _ _ _ (ne_eqb b 92 e) ∙ cond-true _ _ _ (eq-eqb b 34 q)

no_bytes : (escaped : Bool) → tokens_from (string_place escaped) [] ≡ bad ∷ []
unfolding tokens_from
no_bytes true = refl
no_bytes false = refl

-- the turns of the loop that reads a quoted string
pub turn_backslash : (out : List ℕ) (escaped : Bool) (i : ℕ) (bs : List ℕ) → i < length bs → escaped ≡ false → get_or bs i 0 ≡ 92 → strung_at out true (i + 1) bs ≡ strung_at out escaped i bs
turn_backslash out escaped i bs lt plain is =
    sym (at_place out escaped i bs lt ∙ ap (λ (e : Bool). strung out (tokens_from (string_place e) (get_or bs i 0 ∷ drop (i + 1) bs))) plain ∙ ap (strung out) (backslash _ _ is))

pub turn_escaped : (out : List ℕ) (escaped : Bool) (i : ℕ) (bs : List ℕ) → i < length bs → escaped ≡ true → strung_at (out ++ get_or bs i 0 ∷ []) false (i + 1) bs ≡ strung_at out escaped i bs
turn_escaped out escaped i bs lt after =
    sym (at_place out escaped i bs lt ∙ ap (λ (e : Bool). strung out (tokens_from (string_place e) (get_or bs i 0 ∷ drop (i + 1) bs))) after ∙ escaped_byte out _ _)

pub turn_plain : (out : List ℕ) (escaped : Bool) (i : ℕ) (bs : List ℕ) → i < length bs → escaped ≡ false → get_or bs i 0 ≢ 92 → get_or bs i 0 ≢ 34
    → strung_at (out ++ get_or bs i 0 ∷ []) false (i + 1) bs ≡ strung_at out escaped i bs
turn_plain out escaped i bs lt plain e q =
    sym (at_place out escaped i bs lt ∙ ap (λ (e : Bool). strung out (tokens_from (string_place e) (get_or bs i 0 ∷ drop (i + 1) bs))) plain ∙ plain_byte out _ _ e q)

pub turn_last : (out : List ℕ) (escaped : Bool) (i : ℕ) (bs : List ℕ) → i < length bs → escaped ≡ false → get_or bs i 0 ≢ 92 → get_or bs i 0 ≡ 34
    → strung_at out escaped i bs ≡ quoted out ∷ tokens_from outside (drop (i + 1) bs)
turn_last out escaped i bs lt plain e q =
    at_place out escaped i bs lt ∙ ap (λ (e : Bool). strung out (tokens_from (string_place e) (get_or bs i 0 ∷ drop (i + 1) bs))) plain
    ∙ ap (strung out) (last_quote _ _ e q) ∙ ap (λ (l : List ℕ). quoted l ∷ tokens_from outside (drop (i + 1) bs)) (append-nil out)

pub turns_over : (out : List ℕ) (escaped : Bool) (i : ℕ) (bs : List ℕ) → length bs ≤ i → strung_at out escaped i bs ≡ bad ∷ []
turns_over out escaped i bs over = at_drop_all (λ l. strung out (tokens_from (string_place escaped) l)) bs i over ∙ ap (strung out) (no_bytes escaped)
