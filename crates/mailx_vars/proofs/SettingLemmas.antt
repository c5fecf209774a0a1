-- What is found of variables that are set and unset.
use Rattle.std.proofs.Common.{◌≡◌, ℕ, List, [], ◌∷◌, ◌++◌, refl, sym, ap, ◌∙◌, true, false, ⊎_elim, Bool, true≢false}
use Rattle.std.specs.Prelude.{if◌then◌else◌, is_some}
use Rattle.std.specs.declared.option.Option.TheVariants.{Some, None}
use Rattle.std.specs.Cmp.{IsEquivalence}
use Rattle.std.specs.Map.{keys_of}
use Rattle.std.specs.Str.{bytes_eq}
use Rattle.std.proofs.lemmas.Bool.{cases_Bool, cond-true, cond-false}
use Rattle.std.proofs.lemmas.Map.{lookup-set_value, lookup-remove_entry}
use Rattle.mailx_vars.specs.SettingLaws.{SetAgainIsLast, SetGives, SetKeepsOrder, UnsetTakes}
use Rattle.mailx_vars.specs.Settings.{Settings, is_set, value_of, without}
use Rattle.mailx_vars.proofs.NameLemmas.{same-refl, same-symm, to-same}
use Rattle.mailx_vars.proofs.PairLemmas.{map-append, names-set}

same-names : IsEquivalence bytes_eq
same-names = record { refl = same-refl; symm = same-symm; congr = (λ x y z t. ap (λ w. bytes_eq w z) (to-same x y t)) }

one-name : (name : List ℕ) (x y : List ℕ) → bytes_eq name x ≡ true → bytes_eq name y ≡ bytes_eq x y
one-name name x y t = ap (λ w. bytes_eq w y) (to-same name x t)

flip : {A : Type 0} (name other : List ℕ) (x y : A) → (if bytes_eq name other then x else y) ≡ (if bytes_eq other name then x else y)
flip name other x y = ap (λ b. if b then x else y) (same-symm name other)

found-last : (vars : Settings) (name value other : List ℕ) → is_set vars name ≡ false
    → value_of (vars ++ (name, value) ∷ []) other ≡ (if bytes_eq other name then Some value else value_of vars other)
found-last [] name value other new = refl
found-last (p ∷ vars) name value other new = go (bytes_eq name p.0) refl (found-last vars name value other) new
  where
    at-first : (b c : Bool) → (b ≡ true → c ≡ false) → value_of (vars ++ (name, value) ∷ []) other ≡ (if c then Some value else value_of vars other)
        → (if b then Some p.1 else value_of (vars ++ (name, value) ∷ []) other) ≡ (if c then Some value else (if b then Some p.1 else value_of vars other))
    at-first true true apart rest = absurd (true≢false (apart refl))
    at-first true false apart rest = refl
    at-first false c apart rest = rest

    go : (b : Bool) → bytes_eq name p.0 ≡ b → (is_set vars name ≡ false → value_of (vars ++ (name, value) ∷ []) other ≡ (if bytes_eq other name then Some value else value_of vars other))
        → is_some (if b then Some p.1 else value_of vars name) ≡ false
        → (if bytes_eq other p.0 then Some p.1 else value_of (vars ++ (name, value) ∷ []) other)
        ≡ (if bytes_eq other name then Some value else (if bytes_eq other p.0 then Some p.1 else value_of vars other))
    go true same rest h = absurd (true≢false h)
    go false apart rest h =
        at-first (bytes_eq other p.0) (bytes_eq other name)
        (λ t. ap (λ x. bytes_eq x name) (to-same other p.0 t) ∙ same-symm p.0 name ∙ apart)
        (rest h)

pub set-gives : SetGives
set-gives vars name value other =
    ⊎_elim
    (λ t. ap (λ v. value_of v other) (cond-true _ _ _ t) ∙ lookup-set_value same-names (bytes_eq name) (one-name name) other value vars t ∙ flip name other (Some value) (value_of vars other))
    (λ f. ap (λ v. value_of v other) (cond-false _ _ _ f) ∙ found-last vars name value other f)
    (cases_Bool (is_set vars name))

pub unset-takes : UnsetTakes
unset-takes vars name other are = lookup-remove_entry same-names (bytes_eq name) (one-name name) other vars are.distinct ∙ flip name other None (value_of vars other)

pub set-order : SetKeepsOrder
set-order vars name value =
    ⊎_elim
    (λ t. names-set vars name value t ∙ sym (cond-true _ _ _ t))
    (λ f. ap keys_of (cond-false _ _ _ f) ∙ map-append vars (name, value) ∙ sym (cond-false _ _ _ f))
    (cases_Bool (is_set vars name))

pub set-again : SetAgainIsLast
set-again vars name value are =
    set-order (without vars name) name value
    ∙ cond-false _ _ _ (ap is_some (unset-takes vars name name are ∙ cond-true _ _ _ (same-refl name)))
