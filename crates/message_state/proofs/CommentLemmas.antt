-- Comments are passed over in dates as they are in addresses.
use Rattle.std.proofs.Common.{◌≡◌, ◌≢◌, ℕ, zero, suc, ◌+◌, ◌-◌, Bool, true, false, List, [], ◌∷◌, ◌++◌, take, drop, Option, Some, None, refl, sym, ap, ◌∙◌, ⊎_elim, append_assoc, arith}
use Rattle.std.proofs.lemmas.Bool.{cases_eq, cond-true, cond-false, eq-eqb, ne_eqb}
use Rattle.mail_addresses.specs.Lexical.{IsCommentContent, NeverEnds}
use Rattle.mail_addresses.specs.Lexical.IsCommentContent.{none, byte, pair, inner}
use Rattle.mail_addresses.specs.Tokens.{close}
use Rattle.mail_addresses.proofs.Closing.{close-backslash, close-open, close-last, close-inner, close-byte, close-escaped, comment_found}
use Rattle.mail_dates.specs.Parts.{Place, Outside, Inside, Escaped, closed, after_comment_byte, without_comments}

-- ---- a byte of a comment

slash-after : (d b : ℕ) → b ≡ 92 → after_comment_byte d b ≡ Escaped d
slash-after d b h = cond-true _ _ _ (eq-eqb b 92 h)

open-after : (d b : ℕ) → b ≡ 40 → after_comment_byte d b ≡ Inside (suc d)
open-after d b h = cond-false _ _ _ (ne_eqb b 92 (λ e. omega arith)) ∙ cond-true _ _ _ (eq-eqb b 40 h)

shut-after : (d b : ℕ) → b ≡ 41 → after_comment_byte d b ≡ closed d
shut-after d b h = cond-false _ _ _ (ne_eqb b 92 (λ e. omega arith)) ∙ cond-false _ _ _ (ne_eqb b 40 (λ e. omega arith)) ∙ cond-true _ _ _ (eq-eqb b 41 h)

byte-after : (d b : ℕ) → b ≢ 92 → b ≢ 40 → b ≢ 41 → after_comment_byte d b ≡ Inside d
byte-after d b h p q = cond-false _ _ _ (ne_eqb b 92 h) ∙ cond-false _ _ _ (ne_eqb b 40 p) ∙ cond-false _ _ _ (ne_eqb b 41 q)

next : (d b : ℕ) (bs : List ℕ) (s : Place) → after_comment_byte d b ≡ s → without_comments (Inside d) (b ∷ bs) ≡ without_comments s bs
unfolding without_comments
next d b bs s is = ap (λ (t : Place). without_comments t bs) is

taken : (d b : ℕ) (bs : List ℕ) → without_comments (Escaped d) (b ∷ bs) ≡ without_comments (Inside d) bs
unfolding without_comments
taken d b bs = refl

begun : (bs : List ℕ) → without_comments Outside (40 ∷ bs) ≡ 32 ∷ without_comments (Inside 0) bs
unfolding without_comments
begun bs = refl

-- ---- comments that are closed

passed : {inside : List ℕ} → IsCommentContent inside → (d : ℕ) (after : List ℕ) → without_comments (Inside d) (inside ++ after) ≡ without_comments (Inside d) after
passed none d after = refl
passed (byte {b} {bs} p q h rest) d after = next d b (bs ++ after) _ (byte-after d b h p q) ∙ passed rest d after
passed (pair {b} {bs} rest) d after = next d 92 (b ∷ (bs ++ after)) _ (slash-after d 92 refl) ∙ taken d b (bs ++ after) ∙ passed rest d after
passed (inner {inside} {bs} first rest) d after =
    next d 40 ((inside ++ 41 ∷ bs) ++ after) _ (open-after d 40 refl)
    ∙ ap (without_comments (Inside (suc d))) (append_assoc inside (41 ∷ bs) after)
    ∙ passed first (suc d) (41 ∷ (bs ++ after))
    ∙ next (suc d) 41 (bs ++ after) _ (shut-after (suc d) 41 refl)
    ∙ passed rest d after

pub comment-is-space : (inside after : List ℕ) → IsCommentContent inside → without_comments Outside (40 ∷ (inside ++ 41 ∷ after)) ≡ 32 ∷ without_comments Outside after
comment-is-space inside after content =
    begun (inside ++ 41 ∷ after) ∙ ap (λ (bs : List ℕ). 32 ∷ bs) (passed content 0 (41 ∷ after) ∙ next 0 41 after _ (shut-after 0 41 refl))

-- ---- comments that aren't

abbrev place : Bool → ℕ → Place
place true d = Escaped d
place false d = Inside d

abbrev IsLeft : List ℕ → Bool → ℕ → Type 0
IsLeft bs e d = without_comments (place e d) bs ≡ 40 ∷ []

shut-left : (d i b : ℕ) (bs : List ℕ) → b ≡ 41 → close false d i (b ∷ bs) ≡ None → ((n : ℕ) → close false n (i + 1) bs ≡ None → IsLeft bs false n) → without_comments (closed d) bs ≡ 40 ∷ []
shut-left zero i b bs shut unclosed later = let some : Some i ≡ None = sym (close-last 0 i b bs shut refl) ∙ unclosed in absurd cc
shut-left (suc d) i b bs shut unclosed later =
    let one : d ≡ suc d - 1 = omega arith in
    later d (ap (λ (n : ℕ). close false n (i + 1) bs) one ∙ sym (close-inner (suc d) i b bs shut (λ e. absurd (omega (arith, e)))) ∙ unclosed)

left : (bs : List ℕ) (e : Bool) (d i : ℕ) → close e d i bs ≡ None → IsLeft bs e d
unfolding without_comments
left [] true d i unclosed = refl
left [] false d i unclosed = refl
left (b ∷ bs) true d i unclosed = left bs false d (i + 1) (sym (close-escaped d i b bs) ∙ unclosed)
left (b ∷ bs) false d i unclosed =
    ⊎_elim
    (λ slash. next d b bs _ (slash-after d b slash) ∙ left bs true d (i + 1) (sym (close-backslash d i b bs slash) ∙ unclosed))
    (λ no_slash.
    ⊎_elim
    (λ first.
    let one : suc d ≡ d + 1 = omega arith in
    next d b bs _ (open-after d b first) ∙ left bs false (suc d) (i + 1) (ap (λ (n : ℕ). close false n (i + 1) bs) one ∙ sym (close-open d i b bs first) ∙ unclosed))
    (λ no_first.
    ⊎_elim
    (λ shut. next d b bs _ (shut-after d b shut) ∙ shut-left d i b bs shut unclosed (λ n e. left bs false n (i + 1) e))
    (λ no_shut. next d b bs _ (byte-after d b no_slash no_first no_shut) ∙ left bs false d (i + 1) (sym (close-byte d i b bs no_slash no_first no_shut) ∙ unclosed))
    (cases_eq b 41))
    (cases_eq b 40))
    (cases_eq b 92)

never-closed : (bs : List ℕ) (end : Option ℕ) → close false 0 0 bs ≡ end → NeverEnds IsCommentContent 41 bs → end ≡ None
never-closed bs None is never = refl
never-closed bs (Some k) is never = let found = comment_found bs k is in absurd (never (take k bs) (drop (k + 1) bs) found.1 found.2)

pub open-stays : (bs : List ℕ) → NeverEnds IsCommentContent 41 bs → without_comments Outside (40 ∷ bs) ≡ 32 ∷ 40 ∷ []
open-stays bs never = begun bs ∙ ap (λ (xs : List ℕ). 32 ∷ xs) (left bs false 0 0 (never-closed bs (close false 0 0 bs) refl never))
