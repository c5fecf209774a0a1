-- Where a quoted string ends: the bytes after the opening quote are read from the front.
use Rattle.std.proofs.Common.{◌≡◌, ◌≢◌, ℕ, ◌+◌, ◌<◌, ◌≤◌, Bool, true, false, List, [], ◌∷◌, ◌++◌, Some, None, refl, sym, ap, ◌∙◌, length, drop, get_or, take, arith, subst, inl, inr}
use Rattle.std.proofs.lemmas.Bool.{cases_eq, cond-true, cond-false, eq-eqb, ne_eqb}
use Rattle.std.proofs.lemmas.List.{at_drop_more, at_drop_all}
use Rattle.mail_addresses.specs.Lexical.{IsQuotedContent}
use Rattle.mail_addresses.specs.Lexical.IsQuotedContent.{none, byte, pair}
use Rattle.mail_addresses.specs.Tokens.{unquote}
use Rattle.mail_addresses.proofs.ListLemmas.{cut_here}

pub unquote-escaped : (i b : ℕ) (bs : List ℕ) → unquote true i (b ∷ bs) ≡ unquote false (i + 1) bs
unfolding unquote
unquote-escaped i b bs = refl

pub unquote-backslash : (i b : ℕ) (bs : List ℕ) → b ≡ 92 → unquote false i (b ∷ bs) ≡ unquote true (i + 1) bs
unfolding unquote
unquote-backslash i b bs h = cond-true _ _ _ (eq-eqb b 92 h)

pub unquote-last : (i b : ℕ) (bs : List ℕ) → b ≡ 34 → unquote false i (b ∷ bs) ≡ Some i
unfolding unquote
unquote-last i b bs h = cond-false _ _ _ (ne_eqb b 92 (λ e. omega arith)) ∙ cond-true _ _ _ (eq-eqb b 34 h)

pub unquote-byte : (i b : ℕ) (bs : List ℕ) → b ≢ 92 → b ≢ 34 → unquote false i (b ∷ bs) ≡ unquote false (i + 1) bs
unfolding unquote
unquote-byte i b bs h p = cond-false _ _ _ (ne_eqb b 92 h) ∙ cond-false _ _ _ (ne_eqb b 34 p)

pub unquote-end : (e : Bool) (i : ℕ) (xs : List ℕ) → length xs ≤ i → unquote e i (drop i xs) ≡ None
unfolding unquote
unquote-end e i xs h = at_drop_all (unquote e i) xs i h

-- the next byte of a text, in this state
pub unquote-here : (e f : Bool) (i : ℕ) (xs : List ℕ) → i < length xs → e ≡ f → unquote e i (drop i xs) ≡ unquote f i (get_or xs i 0 ∷ drop (i + 1) xs)
unquote-here e f i xs lt same = at_drop_more (unquote e i) xs i 0 lt ∙ ap (λ (g : Bool). unquote g i (get_or xs i 0 ∷ drop (i + 1) xs)) same

-- a quoted string's content is passed over
unquote-content : {inside : List ℕ} → IsQuotedContent inside → (i : ℕ) (after : List ℕ) → unquote false i (inside ++ after) ≡ unquote false (i + length inside) after
unfolding unquote
unquote-content none i after = ap (λ k. unquote false k after) (omega arith)
unquote-content (byte {b} {bs} p h rest) i after =
    unquote-byte i b (bs ++ after) h p ∙ unquote-content rest (i + 1) after ∙ ap (λ k. unquote false k after) (omega arith)
unquote-content (pair {b} {bs} rest) i after =
    unquote-content rest (i + 1 + 1) after ∙ ap (λ k. unquote false k after) (omega arith)

record Found (bs : List ℕ) (i k : ℕ) : Type 0 where
  inside : List ℕ
  after : List ℕ
  whole : bs ≡ inside ++ 34 ∷ after
  content : IsQuotedContent inside
  place : k ≡ i + length inside

abbrev Finds : List ℕ → Type 0
Finds bs = (i k : ℕ) → unquote false i bs ≡ Some k → Found bs i k

found_byte : (b : ℕ) (bs : List ℕ) → b ≢ 92 → Finds bs → Finds (b ∷ bs)
found_byte b bs n ih i k h =
    elim (cases_eq b 34) [
      | inl e ↦ record {
        inside = [];
        after = bs;
        whole = ap (λ x. x ∷ bs) e;
        content = none;
        place = let g : Some k ≡ Some i = sym h ∙ unquote-last i b bs e in let same : k ≡ i = cc in same ∙ omega arith;
      }
      | inr p ↦ let f = ih (i + 1) k (sym (unquote-byte i b bs n p) ∙ h) in record {
        inside = b ∷ f.inside;
        after = f.after;
        whole = ap (λ (xs : List ℕ). b ∷ xs) f.whole;
        content = byte p n f.content;
        place = f.place ∙ omega arith;
      }
    ]

found : (bs : List ℕ) → Finds bs
unfolding unquote
found [] i k h = absurd (cc)
found (b ∷ []) i k h =
    elim (cases_eq b 92) [
      | inl e ↦ let none_is : None ≡ Some k = sym (unquote-backslash i b [] e) ∙ h in absurd (cc)
      | inr n ↦ found_byte b [] n (found []) i k h
    ]
found (b ∷ c ∷ bs) i k h =
    elim (cases_eq b 92) [
      | inl e ↦ let f = found bs (i + 1 + 1) k (sym (unquote-backslash i b (c ∷ bs) e) ∙ h) in record {
        inside = b ∷ c ∷ f.inside;
        after = f.after;
        whole = ap (λ (xs : List ℕ). b ∷ c ∷ xs) f.whole;
        content = subst (λ x. IsQuotedContent (x ∷ c ∷ f.inside)) (sym e) (pair f.content);
        place = f.place ∙ omega arith;
      }
      | inr n ↦ found_byte b (c ∷ bs) n (found (c ∷ bs)) i k h
    ]

pub quoted_found : (bs : List ℕ) (k : ℕ) → unquote false 0 bs ≡ Some k → (k < length bs) × IsQuotedContent (take k bs) × (bs ≡ take k bs ++ 34 ∷ drop (k + 1) bs)
quoted_found bs k h =
    let f = found bs 0 k h in
    let cut = cut_here bs f.inside f.after 34 k f.whole (f.place ∙ omega arith) in
    (cut.0, subst (λ (xs : List ℕ). IsQuotedContent xs) (sym cut.1) f.content, f.whole ∙ ap (λ (xs : List ℕ). xs ++ 34 ∷ f.after) (sym cut.1) ∙ ap (λ (xs : List ℕ). take k bs ++ 34 ∷ xs) (sym cut.2))

-- the place that is found is that after the content
pub quoted_place : {inside : List ℕ} → IsQuotedContent inside → (after : List ℕ) → unquote false 0 (inside ++ 34 ∷ after) ≡ Some (length inside)
quoted_place {inside} content after = unquote-content content 0 (34 ∷ after) ∙ unquote-last (0 + length inside) 34 after refl ∙ ap (λ k. Some k) (omega arith)

pub quoted_none : (bs : List ℕ) → unquote false 0 bs ≡ None → (inside after : List ℕ) → IsQuotedContent inside → bs ≡ inside ++ 34 ∷ after → ⊥
quoted_none bs h inside after content e = let g : None ≡ Some (length inside) = sym h ∙ ap (unquote false 0) e ∙ quoted_place content after in cc
