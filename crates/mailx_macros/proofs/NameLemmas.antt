-- Names that are the same.
use Rattle.std.proofs.Common.{◌≡◌, ℕ, List, refl, sym, ap, ◌∙◌, true, ⊎_elim, true≢false}
use Rattle.std.specs.Str.{bytes_eq}
use Rattle.std.proofs.lemmas.Bool.{cases_Bool}
use Rattle.std.proofs.lemmas.Slice.Eq.{bytes_eq-Decides}

pub same-refl : (a : List ℕ) → bytes_eq a a ≡ true
same-refl a = (bytes_eq-Decides a a).1 refl

pub to-same : (a b : List ℕ) → bytes_eq a b ≡ true → a ≡ b
to-same a b t = (bytes_eq-Decides a b).0 t

pub same-symm : (a b : List ℕ) → bytes_eq a b ≡ bytes_eq b a
same-symm a b =
    ⊎_elim (λ t. t ∙ sym (ap (λ x. bytes_eq x a) (sym (to-same a b t)) ∙ same-refl a))
    (λ f. ⊎_elim (λ t. absurd (true≢false (sym (ap (λ x. bytes_eq x b) (sym (to-same b a t)) ∙ same-refl b) ∙ f))) (λ g. f ∙ sym g) (cases_Bool (bytes_eq b a)))
    (cases_Bool (bytes_eq a b))
