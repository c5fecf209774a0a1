-- Where a comment ends: the bytes after the opening parenthesis are read from the front.
use Rattle.std.proofs.Common.{◌≡◌, ◌≢◌, ℕ, zero, suc, ◌+◌, ◌-◌, ◌<◌, ◌≤◌, Bool, true, false, List, [], ◌∷◌, ◌++◌, Some, None, refl, sym, ap, ◌∙◌, length, length-append, drop, get_or, take, arith, subst, append_assoc, add-one, inl, inr}
use Rattle.std.proofs.lemmas.Bool.{cases_eq, cond-true, cond-false, eq-eqb, ne_eqb}
use Rattle.std.proofs.lemmas.List.{at_drop_more, at_drop_all}
use Rattle.mail_addresses.specs.Lexical.{IsCommentContent}
use Rattle.mail_addresses.specs.Lexical.IsCommentContent.{none, byte, pair, inner}
use Rattle.mail_addresses.specs.Tokens.{close}
use Rattle.mail_addresses.proofs.ListLemmas.{cut_here}

pub close-backslash : (d i b : ℕ) (bs : List ℕ) → b ≡ 92 → close false d i (b ∷ bs) ≡ close true d (i + 1) bs
unfolding close
close-backslash d i b bs h = cond-true _ _ _ (eq-eqb b 92 h)

pub close-open : (d i b : ℕ) (bs : List ℕ) → b ≡ 40 → close false d i (b ∷ bs) ≡ close false (d + 1) (i + 1) bs
unfolding close
close-open d i b bs h = cond-false _ _ _ (ne_eqb b 92 (λ e. omega arith)) ∙ cond-true _ _ _ (eq-eqb b 40 h)

pub close-last : (d i b : ℕ) (bs : List ℕ) → b ≡ 41 → d ≡ 0 → close false d i (b ∷ bs) ≡ Some i
unfolding close
close-last d i b bs h z = cond-false _ _ _ (ne_eqb b 92 (λ e. omega arith)) ∙ cond-false _ _ _ (ne_eqb b 40 (λ e. omega arith)) ∙ cond-true _ _ _ (eq-eqb b 41 h) ∙ cond-true _ _ _ (eq-eqb d 0 z)

pub close-inner : (d i b : ℕ) (bs : List ℕ) → b ≡ 41 → d ≢ 0 → close false d i (b ∷ bs) ≡ close false (d - 1) (i + 1) bs
unfolding close
close-inner d i b bs h z = cond-false _ _ _ (ne_eqb b 92 (λ e. omega arith)) ∙ cond-false _ _ _ (ne_eqb b 40 (λ e. omega arith)) ∙ cond-true _ _ _ (eq-eqb b 41 h) ∙ cond-false _ _ _ (ne_eqb d 0 z)

pub close-byte : (d i b : ℕ) (bs : List ℕ) → b ≢ 92 → b ≢ 40 → b ≢ 41 → close false d i (b ∷ bs) ≡ close false d (i + 1) bs
unfolding close
close-byte d i b bs h p q = cond-false _ _ _ (ne_eqb b 92 h) ∙ cond-false _ _ _ (ne_eqb b 40 p) ∙ cond-false _ _ _ (ne_eqb b 41 q)

pub close-escaped : (d i b : ℕ) (bs : List ℕ) → close true d i (b ∷ bs) ≡ close false d (i + 1) bs
unfolding close
close-escaped d i b bs = refl

pub close-end : (e : Bool) (d i : ℕ) (xs : List ℕ) → length xs ≤ i → close e d i (drop i xs) ≡ None
unfolding close
close-end e d i xs h = at_drop_all (close e d i) xs i h

-- the next byte of a text, in this state
pub close-here : (e f : Bool) (d i : ℕ) (xs : List ℕ) → i < length xs → e ≡ f → close e d i (drop i xs) ≡ close f d i (get_or xs i 0 ∷ drop (i + 1) xs)
close-here e f d i xs lt same = at_drop_more (close e d i) xs i 0 lt ∙ ap (λ (g : Bool). close g d i (get_or xs i 0 ∷ drop (i + 1) xs)) same

pub same_state : (e f : Bool) (d n i : ℕ) (xs : List ℕ) → e ≡ f → d ≡ n → close e d i xs ≡ close f n i xs
same_state e f d n i xs p q = cc

-- a comment's content is passed over
close-content : {inside : List ℕ} → IsCommentContent inside → (d i : ℕ) (after : List ℕ) → close false d i (inside ++ after) ≡ close false d (i + length inside) after
unfolding close
close-content none d i after = ap (λ k. close false d k after) (omega arith)
close-content (byte {b} {bs} p q h rest) d i after =
    close-byte d i b (bs ++ after) h p q ∙ close-content rest d (i + 1) after ∙ ap (λ k. close false d k after) (omega arith)
close-content (pair {b} {bs} rest) d i after =
    close-content rest d (i + 1 + 1) after ∙ ap (λ k. close false d k after) (omega arith)
close-content (inner {inside} {bs} first rest) d i after =
    let n = i + 1 + length inside in
    close-open d i 40 ((inside ++ 41 ∷ bs) ++ after) refl ∙ ap (close false (d + 1) (i + 1)) (append_assoc inside (41 ∷ bs) after)
    ∙ close-content first (d + 1) (i + 1) (41 ∷ (bs ++ after)) ∙ close-inner (d + 1) n 41 (bs ++ after) refl (λ e. omega arith)
    ∙ ap (λ k. close false k (n + 1) (bs ++ after)) (omega arith) ∙ close-content rest d (n + 1) after
    ∙ ap (λ k. close false d k after) (omega (arith, length-append inside (41 ∷ bs)))

-- bytes that close a given number of comments
Closes : ℕ → List ℕ → Type 0
Closes zero bs = IsCommentContent bs
Closes (suc d) bs = (front : List ℕ) × ((back : List ℕ) × (bs ≡ front ++ 41 ∷ back) × IsCommentContent front × Closes d back)

Closes-byte : (d b : ℕ) (bs : List ℕ) → b ≢ 92 → b ≢ 40 → b ≢ 41 → Closes d bs → Closes d (b ∷ bs)
unfolding Closes
Closes-byte zero b bs h p q r = byte p q h r
Closes-byte (suc d) b bs h p q (front, (back, e, c, r)) = (b ∷ front, (back, ap (λ (xs : List ℕ). b ∷ xs) e, byte p q h c, r))

Closes-pair : (d c b : ℕ) (bs : List ℕ) → c ≡ 92 → Closes d bs → Closes d (c ∷ b ∷ bs)
unfolding Closes
Closes-pair zero c b bs h r = subst (λ x. IsCommentContent (x ∷ b ∷ bs)) (sym h) (pair r)
Closes-pair (suc d) c b bs h (front, (back, e, f, r)) = (c ∷ b ∷ front, (back, ap (λ (xs : List ℕ). c ∷ b ∷ xs) e, subst (λ x. IsCommentContent (x ∷ b ∷ front)) (sym h) (pair f), r))

Closes-open : (d b : ℕ) (bs : List ℕ) → b ≡ 40 → Closes (suc d) bs → Closes d (b ∷ bs)
unfolding Closes
Closes-open zero b bs h (front, (back, e, f, r)) = subst (λ (xs : List ℕ). IsCommentContent xs) (sym (ap (λ (xs : List ℕ). b ∷ xs) e ∙ ap (λ x. x ∷ (front ++ 41 ∷ back)) h)) (inner f r)
Closes-open (suc d) b bs h (front, (back, e, f, (first, (last, g, k, r)))) = (
  40 ∷ (front ++ 41 ∷ first),
  (
    last,
    ap (λ x. x ∷ bs) h ∙ ap (λ (xs : List ℕ). 40 ∷ xs) (e ∙ ap (λ (xs : List ℕ). front ++ 41 ∷ xs) g ∙ sym (append_assoc front (41 ∷ first) (41 ∷ last))),
    inner f k,
    r,
  ),
)

Closes-close : (d b : ℕ) (bs : List ℕ) → b ≡ 41 → Closes d bs → Closes (suc d) (b ∷ bs)
unfolding Closes
Closes-close d b bs h r = ([], (bs, ap (λ x. x ∷ bs) h, none, r))

record Found (bs : List ℕ) (d i k : ℕ) : Type 0 where
  inside : List ℕ
  after : List ℕ
  whole : bs ≡ inside ++ 41 ∷ after
  closes : Closes d inside
  place : k ≡ i + length inside

abbrev Finds : List ℕ → Type 0
Finds bs = (d i k : ℕ) → close false d i bs ≡ Some k → Found bs d i k

-- with one more byte, or two, in front
more : (b d i k : ℕ) (bs : List ℕ) → ((inside : List ℕ) → Closes d inside → Closes d (b ∷ inside)) → Found bs d (i + 1) k → Found (b ∷ bs) d i k
more b d i k bs step f = record {
  inside = b ∷ f.inside;
  after = f.after;
  whole = ap (λ (xs : List ℕ). b ∷ xs) f.whole;
  closes = step f.inside f.closes;
  place = f.place ∙ omega arith;
}

found_close : (b : ℕ) (bs : List ℕ) → b ≡ 41 → Finds bs → Finds (b ∷ bs)
unfolding Closes
found_close b bs e ih zero i k h = record {
  inside = [];
  after = bs;
  whole = ap (λ x. x ∷ bs) e;
  closes = none;
  place = let g : Some k ≡ Some i = sym h ∙ close-last 0 i b bs e refl in let same : k ≡ i = cc in same ∙ omega arith;
}
found_close b bs e ih (suc d) i k h =
    let f = ih d (i + 1) k (sym (close-inner (suc d) i b bs e (λ z. omega arith) ∙ ap (λ n. close false n (i + 1) bs) (omega arith)) ∙ h) in record {
      inside = b ∷ f.inside;
      after = f.after;
      whole = ap (λ (xs : List ℕ). b ∷ xs) f.whole;
      closes = Closes-close d b f.inside e f.closes;
      place = f.place ∙ omega arith;
    }

found_byte : (b : ℕ) (bs : List ℕ) → b ≢ 92 → Finds bs → Finds (b ∷ bs)
found_byte b bs n ih d i k h =
    elim (cases_eq b 40) [
      | inl e ↦ let f = ih (d + 1) (i + 1) k (sym (close-open d i b bs e) ∙ h) in record {
        inside = b ∷ f.inside;
        after = f.after;
        whole = ap (λ (xs : List ℕ). b ∷ xs) f.whole;
        closes = Closes-open d b f.inside e (subst (λ n. Closes n f.inside) (add-one d) f.closes);
        place = f.place ∙ omega arith;
      }
      | inr p ↦ elim (cases_eq b 41) [
        | inl e ↦ found_close b bs e ih d i k h
        | inr q ↦ more b d i k bs (λ inside. Closes-byte d b inside n p q) (ih d (i + 1) k (sym (close-byte d i b bs n p q) ∙ h))
      ]
    ]

found : (bs : List ℕ) → Finds bs
unfolding close
found [] d i k h = absurd (cc)
found (b ∷ []) d i k h =
    elim (cases_eq b 92) [
      | inl e ↦ let none_is : None ≡ Some k = sym (close-backslash d i b [] e) ∙ h in absurd (cc)
      | inr n ↦ found_byte b [] n (found []) d i k h
    ]
found (b ∷ c ∷ bs) d i k h =
    elim (cases_eq b 92) [
      | inl e ↦ let f = found bs d (i + 1 + 1) k (sym (close-backslash d i b (c ∷ bs) e) ∙ h) in record {
        inside = b ∷ c ∷ f.inside;
        after = f.after;
        whole = ap (λ (xs : List ℕ). b ∷ c ∷ xs) f.whole;
        closes = Closes-pair d b c f.inside e f.closes;
        place = f.place ∙ omega arith;
      }
      | inr n ↦ found_byte b (c ∷ bs) n (found (c ∷ bs)) d i k h
    ]

pub comment_found : (bs : List ℕ) (k : ℕ) → close false 0 0 bs ≡ Some k → (k < length bs) × IsCommentContent (take k bs) × (bs ≡ take k bs ++ 41 ∷ drop (k + 1) bs)
unfolding Closes
comment_found bs k h =
    let f = found bs 0 0 k h in
    let cut = cut_here bs f.inside f.after 41 k f.whole (f.place ∙ omega arith) in
    (cut.0, subst (λ (xs : List ℕ). IsCommentContent xs) (sym cut.1) f.closes, f.whole ∙ ap (λ (xs : List ℕ). xs ++ 41 ∷ f.after) (sym cut.1) ∙ ap (λ (xs : List ℕ). take k bs ++ 41 ∷ xs) (sym cut.2))

-- the place that is found is that after the content
pub comment_place : {inside : List ℕ} → IsCommentContent inside → (after : List ℕ) → close false 0 0 (inside ++ 41 ∷ after) ≡ Some (length inside)
comment_place {inside} content after = close-content content 0 0 (41 ∷ after) ∙ close-last 0 (0 + length inside) 41 after refl refl ∙ ap (λ k. Some k) (omega arith)

pub comment_none : (bs : List ℕ) → close false 0 0 bs ≡ None → (inside after : List ℕ) → IsCommentContent inside → bs ≡ inside ++ 41 ∷ after → ⊥
comment_none bs h inside after content e = let g : None ≡ Some (length inside) = sym h ∙ ap (close false 0 0) e ∙ comment_place content after in cc
