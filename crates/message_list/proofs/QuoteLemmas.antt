-- The local part of an author, by the quoted string that it begins with.
use Rattle.std.proofs.Common.{◌≡◌, ℕ, ◌+◌, false, List, [], ◌∷◌, ◌++◌, Option, Some, None, refl, sym, ap, ◌∙◌, length, drop, take, arith, inl, inr, append_assoc, length-append}
use Rattle.std.proofs.lemmas.Bool.{cases_eq, cond-true, cond-false, eq-eqb, ne_eqb}
use Rattle.std.proofs.lemmas.List.{take_all, take-append-le}
use Rattle.mail_addresses.specs.Lexical.{IsQuotedContent}
use Rattle.mail_addresses.specs.Tokens.{unquote}
use Rattle.mail_addresses.proofs.Quoting.{quoted_found, quoted_place}
use Rattle.message_list.specs.LocalParts.{quoted_or_before_at, before_at, local_part}

-- the local part of an author that begins with a quoted string
pub local_part-quoted : (author inside after : List ℕ) → IsQuotedContent inside → author ≡ 34 ∷ (inside ++ 34 ∷ after) → local_part author ≡ 34 ∷ (inside ++ 34 ∷ [])
local_part-quoted author inside after content is =
    let whole : List ℕ = 34 ∷ (inside ++ 34 ∷ after) in
    let front : List ℕ = 34 ∷ (inside ++ 34 ∷ []) in
    let at = quoted_place content after in
    let joined : whole ≡ front ++ after = ap (λ (bs : List ℕ). 34 ∷ bs) (sym (append_assoc inside (34 ∷ []) after)) in
    let long : length inside + 2 ≡ length front = omega (arith, length-append inside (34 ∷ [])) in
    ap local_part is ∙ ap (quoted_or_before_at whole) at ∙ ap (take (length inside + 2)) joined ∙ ap (λ n. take n (front ++ after)) long
    ∙ take-append-le (length front) front after (omega arith) ∙ take_all (length front) front (omega arith)

-- the local part of another one
pub local_part-other : (author : List ℕ) → ((inside after : List ℕ) → IsQuotedContent inside → author ≡ 34 ∷ (inside ++ 34 ∷ after) → ⊥) → local_part author ≡ before_at author
local_part-other [] none = refl
local_part-other (b ∷ rest) none =
    elim (cases_eq b 34) [
      | inr other ↦ cond-false _ _ _ (ne_eqb b 34 other)
      | inl quote ↦ cond-true _ _ _ (eq-eqb b 34 quote) ∙ unclosed b rest quote none (unquote false 0 rest) refl
    ]
  where
    unclosed : (b : ℕ) (rest : List ℕ) → b ≡ 34 → ((inside after : List ℕ) → IsQuotedContent inside → b ∷ rest ≡ 34 ∷ (inside ++ 34 ∷ after) → ⊥)
        → (o : Option ℕ) → unquote false 0 rest ≡ o → quoted_or_before_at (b ∷ rest) o ≡ before_at (b ∷ rest)
    unclosed b rest quote none None at = refl
    unclosed b rest quote none (Some k) at =
        let found = quoted_found rest k at in
        absurd (none (take k rest) (drop (k + 1) rest) found.1 (ap (λ x. x ∷ rest) quote ∙ ap (λ (bs : List ℕ). 34 ∷ bs) found.2))
