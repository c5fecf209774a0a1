-- What aliases keep as they change.
use Rattle.std.proofs.Common.{◌≡◌, ◌≤◌, ◌+◌, ◌-◌, ℕ, List, [], ◌∷◌, ◌++◌, refl, sym, ap, ◌∙◌, true, false, Bool, arith, subst, length, length-append}
use Rattle.std.specs.Prelude.{if◌then◌else◌}
use Rattle.std.specs.declared.option.Option.{Option}
use Rattle.std.specs.declared.option.Option.TheVariants.{Some, None}
use Rattle.std.specs.List.{IsDistinct, AllByRecursion}
use Rattle.std.specs.Map.{keys_of}
use Rattle.std.specs.Str.{bytes_eq}
use Rattle.std.proofs.lemmas.List.Sums.{sum_by-cons}
use Rattle.alias_groups.specs.Groups.{AreGroups, Group, member_count, members_of, with_members, without}
use Rattle.alias_groups.proofs.SameLemmas.{same-symm}
use Rattle.alias_groups.proofs.WalkLemmas.{Names}

abbrev pub count_of : Group → ℕ
count_of g = length g.1

-- ---- how many members there are
pub count-with : (groups : List Group) (name : List ℕ) (to : Names) → member_count (with_members groups name to) ≡ member_count groups + length to
count-with [] name to = omega arith
count-with (g ∷ gs) name to = go (bytes_eq name g.0) (count-with gs name to)
  where
    go : (b : Bool) → member_count (with_members gs name to) ≡ member_count gs + length to
        → member_count (if b then (g.0, g.1 ++ to) ∷ gs else g ∷ with_members gs name to) ≡ member_count (g ∷ gs) + length to
    go true rest = let all = sum_by-cons count_of g gs in let now = sum_by-cons count_of (g.0, g.1 ++ to) gs in let e = length-append g.1 to in omega arith
    go false rest = let all = sum_by-cons count_of g gs in let now = sum_by-cons count_of g (with_members gs name to) in omega arith

-- how many members an alias has; one that isn't defined has none
abbrev pub own_count : Option Names → ℕ
own_count None = 0
own_count (Some members) = length members

pub count-without : (groups : List Group) (name : List ℕ) → member_count (without groups name) + own_count (members_of groups name) ≡ member_count groups
count-without [] name = omega arith
count-without (g ∷ gs) name = go (bytes_eq name g.0) (count-without gs name)
  where
    go : (b : Bool) → member_count (without gs name) + own_count (members_of gs name) ≡ member_count gs
        → member_count (if b then gs else g ∷ without gs name) + own_count (if b then Some g.1 else members_of gs name) ≡ member_count (g ∷ gs)
    go true rest = let all = sum_by-cons count_of g gs in omega arith
    go false rest = let all = sum_by-cons count_of g gs in let less = sum_by-cons count_of g (without gs name) in omega arith

-- ---- names that are apart
apart-with : (x : List ℕ) (groups : List Group) (name : List ℕ) (to : Names) → bytes_eq x name ≡ false
    → AllByRecursion (λ y. bytes_eq x y ≡ false) (keys_of groups) → AllByRecursion (λ y. bytes_eq x y ≡ false) (keys_of (with_members groups name to))
apart-with x [] name to apart h = (apart, tt)
apart-with x (g ∷ gs) name to apart h = go (bytes_eq name g.0) (apart-with x gs name to apart h.1)
  where
    go : (b : Bool) → AllByRecursion (λ y. bytes_eq x y ≡ false) (keys_of (with_members gs name to))
        → AllByRecursion (λ y. bytes_eq x y ≡ false) (keys_of (if b then (g.0, g.1 ++ to) ∷ gs else g ∷ with_members gs name to))
    go true rest = h
    go false rest = (h.0, rest)

pub distinct-with : (groups : List Group) (name : List ℕ) (to : Names) → IsDistinct bytes_eq (keys_of groups) → IsDistinct bytes_eq (keys_of (with_members groups name to))
unfolding IsDistinct
distinct-with [] name to h = (tt, tt)
distinct-with (g ∷ gs) name to h = go (bytes_eq name g.0) refl (distinct-with gs name to h.1)
  where
    go : (b : Bool) → bytes_eq name g.0 ≡ b → IsDistinct bytes_eq (keys_of (with_members gs name to)) → IsDistinct bytes_eq (keys_of (if b then (g.0, g.1 ++ to) ∷ gs else g ∷ with_members gs name to))
    go true same rest = h
    go false other rest = (apart-with g.0 gs name to (same-symm g.0 name ∙ other) h.0, rest)

apart-without : (x : List ℕ) (groups : List Group) (name : List ℕ) → AllByRecursion (λ y. bytes_eq x y ≡ false) (keys_of groups)
    → AllByRecursion (λ y. bytes_eq x y ≡ false) (keys_of (without groups name))
apart-without x [] name h = tt
apart-without x (g ∷ gs) name h = go (bytes_eq name g.0) (apart-without x gs name h.1)
  where
    go : (b : Bool) → AllByRecursion (λ y. bytes_eq x y ≡ false) (keys_of (without gs name)) → AllByRecursion (λ y. bytes_eq x y ≡ false) (keys_of (if b then gs else g ∷ without gs name))
    go true rest = h.1
    go false rest = (h.0, rest)

pub distinct-without : (groups : List Group) (name : List ℕ) → IsDistinct bytes_eq (keys_of groups) → IsDistinct bytes_eq (keys_of (without groups name))
unfolding IsDistinct
distinct-without [] name h = tt
distinct-without (g ∷ gs) name h = go (bytes_eq name g.0) (distinct-without gs name h.1)
  where
    go : (b : Bool) → IsDistinct bytes_eq (keys_of (without gs name)) → IsDistinct bytes_eq (keys_of (if b then gs else g ∷ without gs name))
    go true rest = h.1
    go false rest = (apart-without g.0 gs name h.0, rest)

none-distinct : IsDistinct bytes_eq []
unfolding IsDistinct
none-distinct = tt

-- ---- what each call leaves
pub are_none : (groups : List Group) → groups ≡ [] → AreGroups groups
are_none groups none = subst (λ (g : List Group). AreGroups g) (sym none) (record { few = (omega arith); distinct = none-distinct })

pub are_with : (groups : List Group) (name : List ℕ) (to : Names) → member_count groups + length to ≤ 100000 → AreGroups groups → AreGroups (with_members groups name to)
are_with groups name to few are = record { few = (let e = count-with groups name to in omega arith); distinct = distinct-with groups name to are.distinct }

pub are_without : (groups : List Group) (name : List ℕ) → AreGroups groups → AreGroups (without groups name)
are_without groups name are = record { few = (let e = count-without groups name in let f = are.few in omega arith); distinct = distinct-without groups name are.distinct }

pub keeps_with : (old now : List Group) (name : List ℕ) (more to : Names) (members : ℕ) → now ≡ with_members old name more → more ≡ to → AreGroups old
    → members ≡ member_count old → members + length to ≤ 100000
    → AreGroups now × (members + length to ≡ member_count now)
keeps_with old now name more to members is same are has room =
    let to-is : now ≡ with_members old name to = is ∙ ap (λ (m : Names). with_members old name m) same in
    let step : AreGroups (with_members old name to) × (members + length to ≡ member_count (with_members old name to)) =
    (are_with old name to (omega arith) are, (let e = count-with old name to in omega arith)) in
    subst (λ (g : List Group). AreGroups g × (members + length to ≡ member_count g)) (sym to-is) step

pub keeps_out : (old now : List Group) (name : List ℕ) (members removed : ℕ) → now ≡ without old name → member_count now + removed ≡ member_count old → AreGroups old → members ≡ member_count old
    → AreGroups now × (members - removed ≡ member_count now)
keeps_out old now name members removed is count are has =
    (subst (λ (g : List Group). AreGroups g) (sym is) (are_without old name are), omega arith)
