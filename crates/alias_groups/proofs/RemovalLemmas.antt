-- Aliases that are removed together, and members that are counted.
use Rattle.std.proofs.Common.{◌≡◌, ◌≤◌, ◌<◌, ◌+◌, ℕ, zero, suc, take, get_or, Bool, true, false, not, List, [], ◌∷◌, ◌++◌, refl, sym, ap, ◌∙◌, arith, subst, length, ⊎_elim, true≢false}
use Rattle.std.specs.Prelude.{if◌then◌else◌, ◌||◌, nat_lt}
use Rattle.std.specs.declared.option.Option.{Option}
use Rattle.std.specs.declared.option.Option.TheVariants.{Some, None}
use Rattle.std.specs.List.{IsDistinct, AllByRecursion}
use Rattle.std.specs.Map.{keys_of}
use Rattle.std.specs.Str.{bytes_eq}
use Rattle.std.proofs.lemmas.Bool.{cases_Bool, cond-true, ltb-false}
use Rattle.std.proofs.lemmas.List.Sums.{sum_by-cons}
use Rattle.alias_groups.specs.Groups.{AreGroups, Group, define_refusal, member_count, without}
use Rattle.alias_groups.specs.Removal.{without_these}
use Rattle.alias_groups.specs.Walk.{is_among}
use Rattle.alias_groups.specs.declared.error.AliasError.{AliasError}
use Rattle.alias_groups.specs.declared.error.AliasError.TheVariants.{TooMany}
use Rattle.alias_groups.proofs.GroupLemmas.{count_of}
use Rattle.alias_groups.proofs.SameLemmas.{to-same, same-symm}
use Rattle.alias_groups.proofs.WalkLemmas.{Names}

-- ---- names, each once
or-none : (b : Bool) → (b || false) ≡ b
or-none true = refl
or-none false = refl

or-assoc : (a b c : Bool) → ((a || b) || c) ≡ (a || (b || c))
or-assoc true b c = refl
or-assoc false b c = refl

among-append : (names : Names) (x n : List ℕ) → is_among (names ++ x ∷ []) n ≡ (is_among names n || bytes_eq n x)
among-append [] x n = or-none (bytes_eq n x)
among-append (y ∷ ys) x n = ap (λ (b : Bool). bytes_eq n y || b) (among-append ys x n) ∙ sym (or-assoc (bytes_eq n y) (is_among ys n) (bytes_eq n x))

-- ---- aliases that are left
-- a name that is apart from all
apart-left : (x : List ℕ) (groups : List Group) (names : Names) → AllByRecursion (λ y. bytes_eq x y ≡ false) (keys_of groups) → without_these groups (names ++ x ∷ []) ≡ without_these groups names
apart-left x [] names h = refl
apart-left x (g ∷ gs) names h =
    let same : is_among (names ++ x ∷ []) g.0 ≡ is_among names g.0 = among-append names x g.0 ∙ ap (λ (b : Bool). is_among names g.0 || b) (same-symm g.0 x ∙ h.0) ∙ or-none (is_among names g.0) in
    ap (λ (b : Bool). if not b then g ∷ without_these gs (names ++ x ∷ []) else without_these gs (names ++ x ∷ [])) same
    ∙ ap (λ (l : List Group). if not (is_among names g.0) then g ∷ l else l) (apart-left x gs names h.1)

-- one more is taken out
pick : (g : Group) (left right out : List Group) (b c : Bool) → (c ≡ true → left ≡ right) → out ≡ right
    → (if not b then (if c then left else g ∷ out) else out) ≡ (if not (b || c) then g ∷ right else right)
pick g left right out true c eq same = same
pick g left right out false true eq same = eq refl
pick g left right out false false eq same = ap (λ l. g ∷ l) same

spread : (g : Group) (left : List Group) (x : List ℕ) (b : Bool)
    → without (if not b then g ∷ left else left) x ≡ (if not b then (if bytes_eq x g.0 then left else g ∷ without left x) else without left x)
spread g left x true = refl
spread g left x false = refl

pub out-these : (groups : List Group) (names : Names) (x : List ℕ) → IsDistinct bytes_eq (keys_of groups) → without (without_these groups names) x ≡ without_these groups (names ++ x ∷ [])
unfolding IsDistinct
out-these [] names x h = refl
out-these (g ∷ gs) names x h =
    let left = without_these gs names in
    let right = without_these gs (names ++ x ∷ []) in
    spread g left x (is_among names g.0)
    ∙ pick g left right (without left x) (is_among names g.0) (bytes_eq x g.0)
    (λ t. sym (apart-left x gs names (subst (λ (n : List ℕ). AllByRecursion (λ y. bytes_eq n y ≡ false) (keys_of gs)) (sym (to-same x g.0 t)) h.0)))
    (out-these gs names x h.1)
    ∙ ap (λ (b : Bool). if not b then g ∷ right else right) (ap (λ (b : Bool). is_among names g.0 || b) (same-symm x g.0) ∙ sym (among-append names x g.0))

-- the names up to a place, and one more
take-suc : (names : Names) (i : ℕ) (x : List ℕ) → i < length names → x ≡ get_or names i x → take (suc i) names ≡ take i names ++ x ∷ []
take-suc [] i x lt is = absurd (omega arith)
take-suc (y ∷ ys) zero x lt is = ap (λ z. z ∷ []) (sym is)
take-suc (y ∷ ys) (suc i) x lt is = ap (λ l. y ∷ l) (take-suc ys i x (omega arith) is)

pub out-next : (groups : List Group) (names : Names) (i : ℕ) (x : List ℕ) → AreGroups groups → i < length names → x ≡ get_or names i x
    → without (without_these groups (take i names)) x ≡ without_these groups (take (i + 1) names)
out-next groups names i x are lt is =
    out-these groups (take i names) x are.distinct
    ∙ ap (without_these groups) (sym (take-suc names i x lt is) ∙ ap (λ (n : ℕ). take n names) (let e : suc i ≡ i + 1 = omega arith in e))

-- without names all stay
pub out-none : (groups : List Group) → groups ≡ without_these groups []
out-none [] = refl
out-none (g ∷ gs) = ap (λ l. g ∷ l) (out-none gs)

count-these : (groups : List Group) (names : Names) → member_count (without_these groups names) ≤ member_count groups
count-these [] names = omega arith
count-these (g ∷ gs) names = go (is_among names g.0) (count-these gs names)
  where
    go : (b : Bool) → member_count (without_these gs names) ≤ member_count gs → member_count (if not b then g ∷ without_these gs names else without_these gs names) ≤ member_count (g ∷ gs)
    go true rest = let all = sum_by-cons count_of g gs in omega arith
    go false rest = let all = sum_by-cons count_of g gs in let less = sum_by-cons count_of g (without_these gs names) in omega arith

apart-these : (x : List ℕ) (groups : List Group) (names : Names) → AllByRecursion (λ y. bytes_eq x y ≡ false) (keys_of groups)
    → AllByRecursion (λ y. bytes_eq x y ≡ false) (keys_of (without_these groups names))
apart-these x [] names h = tt
apart-these x (g ∷ gs) names h = go (is_among names g.0) (apart-these x gs names h.1)
  where
    go : (b : Bool) → AllByRecursion (λ y. bytes_eq x y ≡ false) (keys_of (without_these gs names))
        → AllByRecursion (λ y. bytes_eq x y ≡ false) (keys_of (if not b then g ∷ without_these gs names else without_these gs names))
    go true rest = rest
    go false rest = (h.0, rest)

distinct-these : (groups : List Group) (names : Names) → IsDistinct bytes_eq (keys_of groups) → IsDistinct bytes_eq (keys_of (without_these groups names))
unfolding IsDistinct
distinct-these [] names h = tt
distinct-these (g ∷ gs) names h = go (is_among names g.0) (distinct-these gs names h.1)
  where
    go : (b : Bool) → IsDistinct bytes_eq (keys_of (without_these gs names)) → IsDistinct bytes_eq (keys_of (if not b then g ∷ without_these gs names else without_these gs names))
    go true rest = rest
    go false rest = (apart-these g.0 gs names h.0, rest)

-- what is left are aliases
pub are_these : (groups now : List Group) (names : Names) → now ≡ without_these groups names → AreGroups groups → AreGroups now
are_these groups now names is are =
    subst (λ (g : List Group). AreGroups g) (sym is)
    (record { few = (let less = count-these groups names in let f = are.few in omega arith); distinct = distinct-these groups names are.distinct })

-- ---- members that aren't refused
abbrev pub is-refused : Option AliasError → Bool
is-refused None = false
is-refused (Some e) = true

none-refused : (o : Option AliasError) → o ≡ Some TooMany → None ≡ o → true ≡ false
none-refused o is none = sym (ap is-refused (none ∙ is))

pub room-for : (groups : List Group) (to : Names) → None ≡ define_refusal groups to → member_count groups + length to ≤ 100000
room-for groups to none =
    ⊎_elim
    (λ t. absurd (true≢false (none-refused (define_refusal groups to) (cond-true _ _ _ t) none)))
    (λ f. let le = ltb-false 100000 (member_count groups + length to) f in omega arith)
    (cases_Bool (nat_lt 100000 (member_count groups + length to)))
