-- What is found of macros that are defined and removed.
use Rattle.std.proofs.Common.{◌≡◌, ℕ, List, [], ◌∷◌, ◌++◌, refl, ap, ◌∙◌, true, false, Bool, true≢false, append_assoc}
use Rattle.std.specs.Prelude.{if◌then◌else◌, is_some, fold, nat_le, length}
use Rattle.std.specs.declared.option.Option.TheVariants.{Some, None}
use Rattle.std.specs.Cmp.{IsEquivalence}
use Rattle.std.specs.Str.{bytes_eq}
use Rattle.std.proofs.lemmas.Map.{lookup-remove_entry}
use Rattle.mailx_macros.specs.MacroLaws.{BodyIsFound, UndefTakes}
use Rattle.mailx_macros.specs.Macros.{Definitions, Macro, begin_refusal, body_of, ended, is_defined, with_line}
use Rattle.mailx_macros.specs.declared.error.MacroError.TheVariants.{Nested, Taken, TooMany}
use Rattle.mailx_macros.proofs.NameLemmas.{same-refl, same-symm, to-same}

same-names : IsEquivalence bytes_eq
same-names = record { refl = same-refl; symm = same-symm; congr = (λ x y z t. ap (λ w. bytes_eq w z) (to-same x y t)) }

one-name : (name : List ℕ) (x y : List ℕ) → bytes_eq name x ≡ true → bytes_eq name y ≡ bytes_eq x y
one-name name x y t = ap (λ w. bytes_eq w y) (to-same name x t)

flip : {A : Type 0} (name other : List ℕ) (x y : A) → (if bytes_eq name other then x else y) ≡ (if bytes_eq other name then x else y)
flip name other x y = ap (λ b. if b then x else y) (same-symm name other)

pub undef-takes : UndefTakes
undef-takes d name other are = lookup-remove_entry same-names (bytes_eq name) (one-name name) other d.done are.distinct ∙ flip name other None (body_of d.done other)

-- a macro that is the last, and the first of its name
found-last : (macros : List Macro) (name : List ℕ) (lines : List (List ℕ)) (other : List ℕ) → is_defined macros name ≡ false
    → body_of (macros ++ (name, lines) ∷ []) other ≡ (if bytes_eq other name then Some lines else body_of macros other)
found-last [] name lines other new = refl
found-last (m ∷ ms) name lines other new = go (bytes_eq name m.0) refl (found-last ms name lines other) new
  where
    at-first : (b c : Bool) → (b ≡ true → c ≡ false) → body_of (ms ++ (name, lines) ∷ []) other ≡ (if c then Some lines else body_of ms other)
        → (if b then Some m.1 else body_of (ms ++ (name, lines) ∷ []) other) ≡ (if c then Some lines else (if b then Some m.1 else body_of ms other))
    at-first true true apart rest = absurd (true≢false (apart refl))
    at-first true false apart rest = refl
    at-first false c apart rest = rest

    go : (b : Bool) → bytes_eq name m.0 ≡ b → (is_defined ms name ≡ false → body_of (ms ++ (name, lines) ∷ []) other ≡ (if bytes_eq other name then Some lines else body_of ms other))
        → is_some (if b then Some m.1 else body_of ms name) ≡ false
        → (if bytes_eq other m.0 then Some m.1 else body_of (ms ++ (name, lines) ∷ []) other)
        ≡ (if bytes_eq other name then Some lines else (if bytes_eq other m.0 then Some m.1 else body_of ms other))
    go true same rest h = absurd (true≢false h)
    go false apart rest h =
        at-first (bytes_eq other m.0) (bytes_eq other name)
        (λ t. ap (λ x. bytes_eq x name) (to-same other m.0 t) ∙ same-symm m.0 name ∙ apart)
        (rest h)

-- the definition that is under way has its lines in order
with-lines : (done : List Macro) (name : List ℕ) (before lines : List (List ℕ))
    → fold with_line (record { done = done; unfinished = Some (name, before) }) lines ≡ record { done = done; unfinished = Some (name, before ++ lines) }
with-lines done name before [] = ap (λ (l : List (List ℕ)). record { done = done; unfinished = Some (name, l) }) (nothing-more before)
  where
    nothing-more : (l : List (List ℕ)) → l ≡ l ++ []
    nothing-more [] = refl
    nothing-more (x ∷ xs) = ap (λ ys. x ∷ ys) (nothing-more xs)
with-lines done name before (line ∷ lines) =
    with-lines done name (before ++ line ∷ []) lines
    ∙ ap (λ (l : List (List ℕ)). record { done = done; unfinished = Some (name, l) }) (append_assoc before (line ∷ []) lines)

is-new : (d : Definitions) (name : List ℕ) → begin_refusal d name ≡ None → is_defined d.done name ≡ false
is-new d name ok = go (is_some d.unfinished) (is_defined d.done name) (nat_le 1000 (length d.done)) ok
  where
    go : (u t f : Bool) → (if u then Some Nested else if t then Some Taken else if f then Some TooMany else None) ≡ None → t ≡ false
    go true t f h = absurd (cc h)
    go false true f h = absurd (cc h)
    go false false f h = refl

pub body-is-found : BodyIsFound
body-is-found d name other lines ok =
    ap (λ (e : Definitions). body_of (ended e).done other) (with-lines d.done name [] lines)
    ∙ found-last d.done name lines other (is-new d name ok)
