-- What a search for a string tells of a text.
use Rattle.std.proofs.Common.{◌≡◌, ℕ, ◌+◌, ◌<◌, ◌≤◌, true, false, List, length, get_or, Option, Some, None, is_some, sym, ap, ◌∙◌, arith}
use Rattle.std.specs.List.{range_with_len}
use Rattle.std.proofs.lemmas.Bool.{false_from_ne_true}
use Rattle.std.proofs.lemmas.List.Folds.{list_any_at, list_any_none}
use Rattle.std.proofs.lemmas.List.FromFn.{length-range_with_len, get_or-range_with_len}
use Rattle.memchr.specs.Find.{OccursAt, FindsNeedle, occurs_at}
use Rattle.memchr.proofs.lemmas.MatchLemmas.{occurs_at-true, OccursAt-true}
use Rattle.mail_text.specs.Holding.{holds}

-- a place where the string stands
pub holds-at : (string text : List ℕ) (k : ℕ) → OccursAt text string k → holds string text ≡ true
unfolding holds
holds-at string text k here =
    let within : k < length text + 1 = let fits : k + length string ≤ length text = here.fits in omega arith in
    list_any_at (occurs_at text string) (range_with_len 0 (length text + 1)) k 0 (omega (arith, length-range_with_len 0 (length text + 1)))
    (ap (occurs_at text string) (get_or-range_with_len 0 (length text + 1) k 0 within ∙ omega arith) ∙ occurs_at-true text string k here)

-- a string that stands nowhere
pub holds-none : (string text : List ℕ) → ((k : ℕ) → k < length text + 1 → OccursAt text string k → ⊥) → holds string text ≡ false
unfolding holds
holds-none string text nowhere =
    list_any_none (occurs_at text string) (range_with_len 0 (length text + 1))
    (λ i d lt.
    let within : i < length text + 1 = omega (arith, length-range_with_len 0 (length text + 1)) in
    let at : get_or (range_with_len 0 (length text + 1)) i d ≡ i = get_or-range_with_len 0 (length text + 1) i d within ∙ omega arith in
    ap (occurs_at text string) at ∙ false_from_ne_true _ (λ here. nowhere i within (OccursAt-true text string i here)))

-- the answer of a search
pub holds-found : (string text : List ℕ) (r : Option ℕ) → FindsNeedle text string 0 r → is_some r ≡ holds string text
holds-found string text None h = sym (holds-none string text (λ k lt. h k (omega arith) lt))
holds-found string text (Some k) h = sym (holds-at string text k h.1)

-- a text that is shorter than the string
pub holds-short : (string text : List ℕ) → length text < length string → holds string text ≡ false
holds-short string text short = holds-none string text (λ k lt here. let fits : k + length string ≤ length text = here.fits in omega arith)
