-- What reading a word token by token tells of it as a criterion.
use Rattle.std.proofs.Common.{◌≡◌, ℕ, Bool, true, false, not, ◌||◌, ◌&&◌, List, [], ◌∷◌, Option, Some, None, Bor, MatchOption, sym, ap, ◌∙◌, subst}
use Rattle.std.proofs.lemmas.Bool.{cond-true, cond-false}
use Rattle.mail_search.specs.declared.reader.Frame.{Frame}
use Rattle.mail_search.specs.declared.token.Token.{Token as Part}
use Rattle.mail_search.specs.declared.reader.Want.{Want}
use Rattle.mail_search.specs.declared.reader.Want.TheVariants as want
use Rattle.mail_search.specs.Grammar.{is_enclosed, IsKey, IsCriterion}
use Rattle.mail_search.specs.Keys.{Key}
use Rattle.mail_search.specs.Reading.{Reading, reading, start, key_at, after_token, after_tokens}
use Rattle.mail_search.specs.Steps.{last_key}
use Rattle.mail_search.specs.Tokens.{Token, outside, tokens_from, tokens_of, spaced_from, without_gaps, is_gap, is_opener, is_closer, token_of}
use Rattle.mail_search.proofs.ReadLemmas.{after_tokens-nil, after_tokens-cons, after_tokens-none, criterion_read}
use Rattle.mail_search.proofs.SpanLemmas.{whole_spelled}
use Rattle.mail_search.proofs.TokenLemmas.{tokens-nil}

-- the reading of a whole word
abbrev pub reading_in : List ℕ → Option Reading
reading_in word = after_tokens (Some start) (without_gaps (tokens_of word))

same_key : (a b : Key) → Some a ≡ Some b → a ≡ b
same_key a b e = cc

no_key : (k : Key) (A : Type 0) → None ≡ Some k → A
no_key k A e = cc

spelled_by : (ts : List Token) (fs : List Frame) (ks : List Key) (w : Want) (k : Key) → after_tokens (Some start) ts ≡ Some (reading fs ks w) → key_at ks w ≡ Some k → IsKey 64 k ts
spelled_by ts fs ks want.Key k e is = no_key k _ is
spelled_by ts fs ks (want.Argument a) k e is = no_key k _ is
spelled_by ts fs ks want.Nothing k e is =
    let whole = whole_spelled ts fs ks e in
    let same : whole.0 ≡ k = sym (ap last_key whole.1) ∙ same_key _ _ is in
    subst (λ (x : Key). IsKey 64 x ts) same whole.2

-- a word that was read is a criterion
pub is_criterion : (word : List ℕ) (r : Reading) (k : Key) → is_enclosed word ≡ true → spaced_from true (tokens_of word) ≡ true
    → reading_in word ≡ Some r → key_at r.keys r.want ≡ Some k → IsCriterion word k
is_criterion word r k encl spaced e is =
    record { enclosed = encl; spaced = spaced; spelled = spelled_by (without_gaps (tokens_of word)) r.frames r.keys r.want k e is }

false_or_true : (b : Bool) (A : Type 0) → b ≡ false → b ≡ true → A
false_or_true b A f t = cc

pub not_enclosed : (word : List ℕ) → is_enclosed word ≡ false → (k : Key) → IsCriterion word k → ⊥
not_enclosed word e k c = false_or_true _ _ e c.enclosed

pub not_spaced : (word : List ℕ) → spaced_from true (tokens_of word) ≡ false → (k : Key) → IsCriterion word k → ⊥
not_spaced word e k c = false_or_true _ _ e c.spaced

none_or_some : {X : Type 0} (o : Option X) (x : X) (A : Type 0) → o ≡ None → o ≡ Some x → A
none_or_some o x A e f = cc

pub not_read : (word : List ℕ) → reading_in word ≡ None → (k : Key) → IsCriterion word k → ⊥
not_read word e k c = none_or_some (reading_in word) _ _ e (criterion_read k (without_gaps (tokens_of word)) c.spelled)

abbrev key_in : Option Reading → Option Key
key_in None = None
key_in (Some r) = key_at r.keys r.want

pub not_whole : (word : List ℕ) (r : Reading) → reading_in word ≡ Some r → key_at r.keys r.want ≡ None → (k : Key) → IsCriterion word k → ⊥
not_whole word r e none k c =
    let whole : key_at r.keys r.want ≡ Some k = ap key_in (sym e ∙ criterion_read k (without_gaps (tokens_of word)) c.spelled) in
    none_or_some (key_at r.keys r.want) k _ none whole

-- a word has one criterion at most
pub one_key : (word : List ℕ) (a b : Key) → IsCriterion word a → IsCriterion word b → a ≡ b
one_key word a b c d =
    let ts = without_gaps (tokens_of word) in
    same_key a b (ap key_in (sym (criterion_read a ts c.spelled) ∙ criterion_read b ts d.spelled))

-- the turns of the loop that reads a word: a blank
pub spaced_gap : (rest after : List ℕ) (t : Token) (free : Bool) → tokens_of rest ≡ t ∷ tokens_of after → is_gap t ≡ true → spaced_from true (tokens_of after) ≡ spaced_from free (tokens_of rest)
unfolding spaced_from
spaced_gap rest after t free is g = sym (ap (spaced_from free) is ∙ cond-true _ _ _ g)

pub read_gap : (rest after : List ℕ) (t : Token) (r : Option Reading) → tokens_of rest ≡ t ∷ tokens_of after → is_gap t ≡ true
    → after_tokens r (without_gaps (tokens_of after)) ≡ after_tokens r (without_gaps (tokens_of rest))
read_gap rest after t r is g = sym (ap (λ (ts : List Token). after_tokens r (without_gaps ts)) is ∙ ap (after_tokens r) (cond-false _ _ _ (ap not g)))

-- another token
spaced_token : (rest after : List ℕ) (t : Token) (free : Bool) → tokens_of rest ≡ t ∷ tokens_of after → is_gap t ≡ false
    → spaced_from free (tokens_of rest) ≡ ((free || is_closer t) && spaced_from (is_opener t) (tokens_of after))
unfolding spaced_from
spaced_token rest after t free is g = ap (spaced_from free) is ∙ cond-false _ _ _ g

pub spaced_first : (rest after : List ℕ) (t : Token) (free : Bool) → tokens_of rest ≡ t ∷ tokens_of after → is_gap t ≡ false
    → (free || is_closer t) ≡ true → spaced_from (is_opener t) (tokens_of after) ≡ spaced_from free (tokens_of rest)
spaced_first rest after t free is g may = sym (spaced_token rest after t free is g ∙ ap (λ (b : Bool). b && spaced_from (is_opener t) (tokens_of after)) may)

pub spaced_not : (rest after : List ℕ) (t : Token) (free : Bool) → tokens_of rest ≡ t ∷ tokens_of after → is_gap t ≡ false → (free || is_closer t) ≡ false → spaced_from free (tokens_of rest) ≡ false
spaced_not rest after t free is g not_may = spaced_token rest after t free is g ∙ ap (λ (b : Bool). b && spaced_from (is_opener t) (tokens_of after)) not_may

pub read_token : (rest after : List ℕ) (t : Token) (q : Reading) → tokens_of rest ≡ t ∷ tokens_of after → is_gap t ≡ false
    → after_tokens (Some q) (without_gaps (tokens_of rest)) ≡ after_tokens (after_token q t) (without_gaps (tokens_of after))
read_token rest after t q is g =
    ap (λ (ts : List Token). after_tokens (Some q) (without_gaps ts)) is ∙ ap (after_tokens (Some q)) (cond-true _ _ _ (ap not g)) ∙ after_tokens-cons q t _

pub read_none : (rest after : List ℕ) (t : Token) (q : Reading) → tokens_of rest ≡ t ∷ tokens_of after → is_gap t ≡ false → after_token q t ≡ None
    → after_tokens (Some q) (without_gaps (tokens_of rest)) ≡ None
read_none rest after t q is g e = read_token rest after t q is g ∙ ap (λ (r : Option Reading). after_tokens r (without_gaps (tokens_of after))) e ∙ after_tokens-none _

-- the token that was found at the front, and that none was
same_found : (p : Part × Bor (List ℕ)) (t : Part) (after : Bor (List ℕ)) → Some p ≡ Some (t, after) → p ≡ (t, after)
same_found p t after e = cc

pub found_first : (rest : List ℕ) (o : Option (Part × Bor (List ℕ))) (t : Part) (after : Bor (List ℕ))
    → MatchOption o (rest ≡ []) (λ p. tokens_from outside rest ≡ token_of p.0 ∷ tokens_from outside p.1.now) → o ≡ Some (t, after)
    → tokens_of rest ≡ token_of t ∷ tokens_of after.now
found_first rest None t after h e = cc
found_first rest (Some p) t after h e = subst (λ (q : Part × Bor (List ℕ)). tokens_from outside rest ≡ token_of q.0 ∷ tokens_from outside q.1.now) (same_found p t after e) h

pub found_none : (rest : List ℕ) (o : Option (Part × Bor (List ℕ))) → MatchOption o (rest ≡ []) (λ p. tokens_from outside rest ≡ token_of p.0 ∷ tokens_from outside p.1.now) → o ≡ None → rest ≡ []
found_none rest None h e = h
found_none rest (Some p) h e = cc

-- the end of the word
pub spaced_end : (word rest : List ℕ) (free : Bool) → rest ≡ [] → spaced_from free (tokens_of rest) ≡ spaced_from true (tokens_of word) → spaced_from true (tokens_of word) ≡ true
unfolding spaced_from
spaced_end word rest free none same = sym same ∙ ap (λ (l : List ℕ). spaced_from free (tokens_of l)) none ∙ ap (spaced_from free) tokens-nil

pub read_end : (word rest : List ℕ) (r : Reading) → rest ≡ [] → after_tokens (Some r) (without_gaps (tokens_of rest)) ≡ reading_in word → reading_in word ≡ Some r
read_end word rest r none same =
    sym same ∙ ap (λ (l : List ℕ). after_tokens (Some r) (without_gaps (tokens_of l))) none ∙ ap (λ (ts : List Token). after_tokens (Some r) (without_gaps ts)) tokens-nil ∙ after_tokens-nil (Some r)
