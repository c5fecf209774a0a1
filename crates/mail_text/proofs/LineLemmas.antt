-- The lines of a text, at its first line feed and at its end.
use Rattle.std.proofs.Common.{◌≡◌, ℕ, zero, suc, ◌+◌, ◌<◌, ◌≤◌, true, false, List, [], ◌∷◌, length, take, drop, get_or, refl, sym, ap, ◌∙◌, arith, ◌==◌, ⊎_elim, subst}
use Rattle.std.proofs.lemmas.Bool.{cond-true, cond-false, eq-eqb, eqb-true, eqb-false, ne_eqb, false≢true, cases_Bool}
use Rattle.std.specs.List.{flat_map, AllByRecursion}
use Rattle.mail_text.specs.Lines.{lines_of, in_front, with_feed, fed, HasNoFeed}

pub lines_of-nil : lines_of [] ≡ []
unfolding lines_of
lines_of-nil = refl

-- a line feed stands at the place, and none before it
pub lines_of-hit : (xs : List ℕ) (at : ℕ) → at < length xs → ((k : ℕ) → k < at → get_or xs k 0 ≡ 10 → ⊥) → get_or xs at 0 ≡ 10 → lines_of xs ≡ take at xs ∷ lines_of (drop (at + 1) xs)
unfolding lines_of
lines_of-hit [] at lt none is = absurd (omega arith)
lines_of-hit (x ∷ xs) zero lt none is = cond-true _ _ _ (eq-eqb _ _ is)
lines_of-hit (x ∷ xs) (suc at) lt none is =
    let ih = lines_of-hit xs at (omega arith) (λ k l e. none (suc k) (omega arith) e) is in
    let later : suc at + 1 ≡ suc (at + 1) = omega arith in
    cond-false _ _ _ (ne_eqb _ _ (none 0 (omega arith))) ∙ ap (in_front x) ih ∙ ap (λ (k : ℕ). (x ∷ take at xs) ∷ lines_of (drop k (x ∷ xs))) (sym later)

-- a text with bytes and no line feed is one line
pub lines_of-miss : (xs : List ℕ) → 0 < length xs → ((k : ℕ) → k < length xs → get_or xs k 0 ≡ 10 → ⊥) → lines_of xs ≡ xs ∷ []
unfolding lines_of
lines_of-miss [] lt none = absurd (omega arith)
lines_of-miss (x ∷ []) lt none = cond-false _ _ _ (ne_eqb _ _ (none 0 (omega arith)))
lines_of-miss (x ∷ y ∷ ys) lt none =
    let ih = lines_of-miss (y ∷ ys) (omega arith) (λ k l e. none (suc k) (omega arith) e) in
    cond-false _ _ _ (ne_eqb _ _ (none 0 (omega arith))) ∙ ap (in_front x) ih

pub lines_of-empty : (xs : List ℕ) → length xs ≡ 0 → lines_of xs ≡ []
lines_of-empty [] e = lines_of-nil
lines_of-empty (x ∷ xs) e = absurd (omega arith)

pub not_empty : (xs : List ℕ) → (length xs == 0) ≡ false → 0 < length xs
not_empty [] e = absurd (false≢true (sym e))
not_empty (x ∷ xs) e = omega arith

length-in_front : (x : ℕ) (ls : List (List ℕ)) → length (in_front x ls) ≤ suc (length ls)
length-in_front x [] = omega arith
length-in_front x (l ∷ ls) = omega arith

-- a text has no more lines than bytes
pub length-lines_of : (xs : List ℕ) → length (lines_of xs) ≤ length xs
unfolding lines_of
length-lines_of [] = omega arith
length-lines_of (x ∷ xs) =
    let ih = length-lines_of xs in
    let f = length-in_front x (lines_of xs) in
    let L = λ (ls : List (List ℕ)). length ls ≤ suc (length xs) in
    ⊎_elim (λ t. subst L (sym (cond-true _ _ _ t)) (omega arith)) (λ e. subst L (sym (cond-false _ _ _ e)) (omega arith)) (cases_Bool (x == 10))

-- a text that begins with a line feed, and one that begins with another byte
pub lines_of-feed : (b : ℕ) (bs : List ℕ) → (b == 10) ≡ true → lines_of (b ∷ bs) ≡ [] ∷ lines_of bs
unfolding lines_of
lines_of-feed b bs is = cond-true _ _ _ is

pub lines_of-byte : (b : ℕ) (bs : List ℕ) → (b == 10) ≡ false → lines_of (b ∷ bs) ≡ in_front b (lines_of bs)
unfolding lines_of
lines_of-byte b bs other = cond-false _ _ _ other

-- the lines of a text with bytes are not none
pub record IsSomeLines (lines : List (List ℕ)) : Type 0 where
  pub first : List ℕ
  pub later : List (List ℕ)
  pub is : lines ≡ first ∷ later

in_front-some : (b : ℕ) (ls lines : List (List ℕ)) → lines ≡ in_front b ls → IsSomeLines lines
in_front-some b [] lines e = record { first = b ∷ []; later = []; is = e }
in_front-some b (l ∷ ls) lines e = record { first = b ∷ l; later = ls; is = e }

pub lines_of-some : (b : ℕ) (bs : List ℕ) → IsSomeLines (lines_of (b ∷ bs))
lines_of-some b bs =
    ⊎_elim
    (λ is. record { first = []; later = lines_of bs; is = lines_of-feed b bs is })
    (λ other. in_front-some b (lines_of bs) _ (lines_of-byte b bs other))
    (cases_Bool (b == 10))

-- a byte in front of the first of some lines is a byte in front of their text
flat_map-in_front : (b : ℕ) (lines : List (List ℕ)) → IsSomeLines lines → flat_map with_feed (in_front b lines) ≡ b ∷ flat_map with_feed lines
flat_map-in_front b lines some = ap (λ (ls : List (List ℕ)). flat_map with_feed (in_front b ls)) some.is ∙ ap (λ (ls : List (List ℕ)). b ∷ flat_map with_feed ls) (sym some.is)

fed-last : (b : ℕ) → flat_map with_feed (lines_of (b ∷ [])) ≡ fed (b ∷ [])
unfolding lines_of fed
fed-last b =
    ⊎_elim
    (λ is. ap (flat_map with_feed) (lines_of-feed b [] is) ∙ ap (λ (x : ℕ). x ∷ []) (sym (eqb-true _ _ is)) ∙ sym (cond-true _ _ _ is))
    (λ other. ap (flat_map with_feed) (lines_of-byte b [] other) ∙ sym (cond-false _ _ _ other))
    (cases_Bool (b == 10))

-- the lines, each with a line feed, make the text
pub flat_map-lines_of : (bs : List ℕ) → flat_map with_feed (lines_of bs) ≡ fed bs
unfolding fed
flat_map-lines_of [] = ap (flat_map with_feed) lines_of-nil
flat_map-lines_of (b ∷ []) = fed-last b
flat_map-lines_of (b ∷ c ∷ cs) =
    let later = flat_map-lines_of (c ∷ cs) in
    ⊎_elim
    (λ is. ap (flat_map with_feed) (lines_of-feed b (c ∷ cs) is) ∙ ap (λ (l : List ℕ). 10 ∷ l) later ∙ ap (λ (x : ℕ). x ∷ fed (c ∷ cs)) (sym (eqb-true _ _ is)))
    (λ other. ap (flat_map with_feed) (lines_of-byte b (c ∷ cs) other) ∙ flat_map-in_front b _ (lines_of-some c cs) ∙ ap (λ (l : List ℕ). b ∷ l) later)
    (cases_Bool (b == 10))

-- no line has a line feed in it
HasNoFeed-nil : HasNoFeed []
HasNoFeed-nil k d lt = absurd (omega arith)

HasNoFeed-cons : (b : ℕ) (l : List ℕ) → (b == 10) ≡ false → HasNoFeed l → HasNoFeed (b ∷ l)
HasNoFeed-cons b l other rest zero d lt = eqb-false b 10 other
HasNoFeed-cons b l other rest (suc k) d lt = rest k d (omega arith)

apart-in_front : (b : ℕ) (lines : List (List ℕ)) → (b == 10) ≡ false → AllByRecursion HasNoFeed lines → AllByRecursion HasNoFeed (in_front b lines)
apart-in_front b [] other apart = (HasNoFeed-cons b [] other HasNoFeed-nil, tt)
apart-in_front b (l ∷ ls) other apart = (HasNoFeed-cons b l other apart.0, apart.1)

pub lines_of-apart : (bs : List ℕ) → AllByRecursion HasNoFeed (lines_of bs)
lines_of-apart [] = subst (AllByRecursion HasNoFeed) (sym lines_of-nil) tt
lines_of-apart (b ∷ bs) =
    ⊎_elim
    (λ is. subst (AllByRecursion HasNoFeed) (sym (lines_of-feed b bs is)) (HasNoFeed-nil, lines_of-apart bs))
    (λ other. subst (AllByRecursion HasNoFeed) (sym (lines_of-byte b bs other)) (apart-in_front b (lines_of bs) other (lines_of-apart bs)))
    (cases_Bool (b == 10))
