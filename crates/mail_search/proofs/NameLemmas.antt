-- A search in the code's table of names.
use Rattle.std.proofs.Common.{◌≡◌, Bool, List, [], ◌∷◌, map, refl, sym, ap, ◌∙◌, ⊎_elim, Option, Some, None, Bor}
use Rattle.std.proofs.lemmas.Bool.{cond-true, cond-false, cases_Bool}
use Rattle.std.specs.Option.{option_map, option_copied}
use Rattle.std.specs.List.{find}

-- a search among mapped elements is a search by what they are mapped to
pub find-map : {X Y : Type 0} (f : X → Y) (p : Y → Bool) (xs : List X) → option_map f (find (λ x. p (f x)) xs) ≡ find p (map f xs)
find-map f p [] = refl
find-map f p (x ∷ xs) =
    ⊎_elim
    (λ t. ap (option_map f) (cond-true _ _ _ t) ∙ sym (cond-true _ _ _ t))
    (λ e. ap (option_map f) (cond-false _ _ _ e) ∙ find-map f p xs ∙ sym (cond-false _ _ _ e))
    (cases_Bool (p (f x)))

pub option_map-copied : {X Y : Type 0} (f : X → Y) (o : Option (Bor X)) → option_map (λ b. f b.now) o ≡ option_map f (option_copied o)
option_map-copied f None = refl
option_map-copied f (Some b) = refl
