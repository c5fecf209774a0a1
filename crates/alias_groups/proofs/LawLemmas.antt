-- What is found of aliases that are defined and removed, and that no name stands twice in an expansion.
use Rattle.std.proofs.Common.{◌≡◌, ℕ, zero, suc, List, [], ◌∷◌, ◌++◌, refl, sym, ap, ◌∙◌, true, false, Bool, ⊎_elim, subst, true≢false}
use Rattle.std.specs.Prelude.{if◌then◌else◌, unwrap_or, ◌||◌, ◌&&◌, length}
use Rattle.std.specs.declared.option.Option.{Option}
use Rattle.std.specs.declared.option.Option.TheVariants.{Some, None}
use Rattle.std.specs.Cmp.{IsEquivalence}
use Rattle.std.specs.List.{IsDistinct, AllByRecursion}
use Rattle.std.specs.Str.{bytes_eq, str_to_ascii_lowercase}
use Rattle.std.proofs.lemmas.Bool.{cases_Bool, cond-true, cond-false}
use Rattle.std.proofs.lemmas.Map.{lookup-remove_entry}
use Rattle.mail_text.specs.Ascii.{same_ascii}
use Rattle.alias_groups.specs.Expansion.{dropped_names}
use Rattle.alias_groups.specs.GroupLaws.{DefineAppends, EachOnce, RemoveTakes}
use Rattle.alias_groups.specs.Groups.{Group, members_of, with_members}
use Rattle.name_lists.specs.Names.{has_name, with_name}
use Rattle.alias_groups.specs.Walk.{Walked, closed, is_among, is_within, met, met_all, named, nothing, walk}
use Rattle.alias_groups.proofs.SameLemmas.{same-refl, same-symm, to-same}
use Rattle.alias_groups.proofs.WalkLemmas.{Names}

same-names : IsEquivalence bytes_eq
same-names = record { refl = same-refl; symm = same-symm; congr = (λ x y z t. ap (λ w. bytes_eq w z) (to-same x y t)) }

one-name : (name : List ℕ) (x y : List ℕ) → bytes_eq name x ≡ true → bytes_eq name y ≡ bytes_eq x y
one-name name x y t = ap (λ w. bytes_eq w y) (to-same name x t)

flip : {A : Type 0} (name other : List ℕ) (x y : A) → (if bytes_eq name other then x else y) ≡ (if bytes_eq other name then x else y)
flip name other x y = ap (λ b. if b then x else y) (same-symm name other)

pub remove-takes : RemoveTakes
remove-takes groups name other are = lookup-remove_entry same-names (bytes_eq name) (one-name name) other groups are.distinct ∙ flip name other None (members_of groups other)

pub define-appends : DefineAppends
define-appends [] name other to = refl
define-appends (g ∷ gs) name other to = go (bytes_eq name g.0) refl (define-appends gs name other to)
  where
    -- the alias is here
    here : (b c : Bool) → b ≡ c → (if b then Some (g.1 ++ to) else members_of gs other) ≡ (if c then Some (g.1 ++ to) else (if b then Some g.1 else members_of gs other))
    here true true e = refl
    here true false e = absurd (true≢false e)
    here false true e = absurd (true≢false (sym e))
    here false false e = refl

    -- the alias is further on
    further : (b c : Bool) (old : Option Names) → (b ≡ true → c ≡ false) → members_of (with_members gs name to) other ≡ (if c then Some (unwrap_or old [] ++ to) else members_of gs other)
        → (if b then Some g.1 else members_of (with_members gs name to) other) ≡ (if c then Some (unwrap_or old [] ++ to) else (if b then Some g.1 else members_of gs other))
    further true true old apart rest = absurd (true≢false (apart refl))
    further true false old apart rest = refl
    further false c old apart rest = rest

    go : (b : Bool) → bytes_eq name g.0 ≡ b
        → members_of (with_members gs name to) other ≡ (if bytes_eq other name then Some (unwrap_or (members_of gs name) [] ++ to) else members_of gs other)
        → members_of (if b then (g.0, g.1 ++ to) ∷ gs else g ∷ with_members gs name to) other
        ≡ (if bytes_eq other name then Some (unwrap_or (if b then Some g.1 else members_of gs name) [] ++ to) else members_of (g ∷ gs) other)
    go true same rest = here (bytes_eq other g.0) (bytes_eq other name) (ap (bytes_eq other) (sym (to-same name g.0 same)))
    go false apart rest =
        further (bytes_eq other g.0) (bytes_eq other name) (members_of gs name)
        (λ t. ap (λ x. bytes_eq x name) (to-same other g.0 t) ∙ same-symm g.0 name ∙ apart) rest

-- ---- each name once
apart-push : (x name : List ℕ) (names : Names) → AllByRecursion (λ y. same_ascii x y ≡ false) names → same_ascii x name ≡ false → AllByRecursion (λ y. same_ascii x y ≡ false) (names ++ name ∷ [])
apart-push x name [] h last = (last, tt)
apart-push x name (y ∷ ys) h last = (h.0, apart-push x name ys h.1 last)

or-parts : (a b : Bool) → (a || b) ≡ false → (a ≡ false) × (b ≡ false)
or-parts true b h = absurd (true≢false h)
or-parts false b h = (refl, h)

distinct-push : (names : Names) (name : List ℕ) → IsDistinct same_ascii names → has_name names name ≡ false → IsDistinct same_ascii (names ++ name ∷ [])
unfolding IsDistinct
distinct-push [] name h new = (tt, tt)
distinct-push (x ∷ xs) name h new =
    let parts = or-parts (same_ascii name x) (has_name xs name) new in
    (apart-push x name xs h.0 (same-symm (str_to_ascii_lowercase x) (str_to_ascii_lowercase name) ∙ parts.0), distinct-push xs name h.1 parts.1)

pub once-with_name : (names : Names) (name : List ℕ) → IsDistinct same_ascii names → IsDistinct same_ascii (with_name names name)
once-with_name names name h =
    ⊎_elim
    (λ t. subst (IsDistinct same_ascii) (sym (cond-true _ _ _ t)) h)
    (λ f. subst (IsDistinct same_ascii) (sym (cond-false _ _ _ f)) (distinct-push names name h f))
    (cases_Bool (has_name names name))

once-named : (dropped opened : Names) (name : List ℕ) (w : Walked) → IsDistinct same_ascii w.added → IsDistinct same_ascii (named dropped opened name w).added
once-named dropped opened name w h = go (is_within opened && has_name dropped name)
  where
    go : (b : Bool) → IsDistinct same_ascii (if b then w else record w { added = with_name w.added name }).added
    go true = h
    go false = once-with_name w.added name h

abbrev pub KeepsOnce : (Names → Names → Walked → Walked) → Type 0
KeepsOnce through = (opened names : Names) (w : Walked) → IsDistinct same_ascii w.added → IsDistinct same_ascii (through opened names w).added

once-met : (through : Names → Names → Walked → Walked) → KeepsOnce through → (dropped opened : Names) (name : List ℕ) (members : Option Names) (w : Walked)
    → IsDistinct same_ascii w.added → IsDistinct same_ascii (met through dropped opened name members w).added
once-met through keeps dropped opened name None w h = once-named dropped opened name w h
once-met through keeps dropped opened name (Some members) w h = go (is_among opened name) (is_among w.over name)
  where
    go : (b o : Bool) → IsDistinct same_ascii (if b then named dropped opened name w else if o then w else closed name (through (opened ++ name ∷ []) members w)).added
    go true o = once-named dropped opened name w h
    go false true = h
    go false false = keeps (opened ++ name ∷ []) members w h

once-met_all : (through : Names → Names → Walked → Walked) → KeepsOnce through → (groups : List Group) (dropped opened : Names) (names : Names) (w : Walked)
    → IsDistinct same_ascii w.added → IsDistinct same_ascii (met_all through groups dropped opened names w).added
once-met_all through keeps groups dropped opened [] w h = h
once-met_all through keeps groups dropped opened (name ∷ names) w h =
    once-met_all through keeps groups dropped opened names (met through dropped opened name (members_of groups name) w)
    (once-met through keeps dropped opened name (members_of groups name) w h)

once-walk : (depth : ℕ) (groups : List Group) (dropped : Names) → KeepsOnce (walk depth groups dropped)
unfolding walk
once-walk zero groups dropped opened names w h = h
once-walk (suc depth) groups dropped opened names w h = once-met_all (walk depth groups dropped) (once-walk depth groups dropped) groups dropped opened names w h

pub none-once : IsDistinct same_ascii []
unfolding IsDistinct
none-once = tt

pub each-once : EachOnce
each-once groups own metoo names = once-walk (suc (length groups)) groups (dropped_names own metoo) [] names nothing none-once
