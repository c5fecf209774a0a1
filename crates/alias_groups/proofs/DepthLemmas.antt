-- A walk that may go deeper comes to the same.
use Rattle.std.proofs.Common.{◌≡◌, ◌≤◌, ◌<◌, ◌+◌, ℕ, zero, suc, List, [], ◌∷◌, ◌++◌, refl, ap, ◌∙◌, true, false, Bool, arith, ⊎_elim, length}
use Rattle.std.specs.Prelude.{if◌then◌else◌, ◌||◌, ◌&&◌}
use Rattle.std.specs.declared.option.Option.{Option}
use Rattle.std.specs.declared.option.Option.TheVariants.{Some, None}
use Rattle.alias_groups.specs.GroupLaws.{DepthSuffices}
use Rattle.alias_groups.specs.Groups.{Group, members_of}
use Rattle.name_lists.specs.Names.{has_name, with_name}
use Rattle.alias_groups.specs.Unwinding.{fresh, one_each}
use Rattle.alias_groups.specs.Walk.{Walked, closed, is_among, is_within, met, met_all, named, nothing, walk}
use Rattle.alias_groups.proofs.FreshLemmas.{alias-old, among-new, among-old, fresh-begun, fresh-less, or-left, or-right, or-split}
use Rattle.alias_groups.proofs.SameLemmas.{same-refl}
use Rattle.alias_groups.proofs.WalkLemmas.{Names}

-- ---- a walk that is over stays so
abbrev pub KeepsOver : (Names → Names → Walked → Walked) → Type 0
KeepsOver through = (opened names : Names) (w : Walked) (q : List ℕ) → is_among w.over q ≡ true → is_among (through opened names w).over q ≡ true

over-named : (dropped opened : Names) (name : List ℕ) (w : Walked) (q : List ℕ) → is_among w.over q ≡ true → is_among (named dropped opened name w).over q ≡ true
over-named dropped opened name w q h = go (is_within opened && has_name dropped name)
  where
    go : (b : Bool) → is_among (if b then w else record w { added = with_name w.added name }).over q ≡ true
    go true = h
    go false = h

over-met : (through : Names → Names → Walked → Walked) → KeepsOver through → (dropped opened : Names) (name : List ℕ) (members : Option Names) (w : Walked) (q : List ℕ)
    → is_among w.over q ≡ true → is_among (met through dropped opened name members w).over q ≡ true
over-met through keeps dropped opened name None w q h = over-named dropped opened name w q h
over-met through keeps dropped opened name (Some members) w q h = go (is_among opened name) (is_among w.over name)
  where
    go : (b o : Bool) → is_among (if b then named dropped opened name w else if o then w else closed name (through (opened ++ name ∷ []) members w)).over q ≡ true
    go true o = over-named dropped opened name w q h
    go false true = h
    go false false = alias-old (through (opened ++ name ∷ []) members w).over name q (keeps (opened ++ name ∷ []) members w q h)

over-met_all : (through : Names → Names → Walked → Walked) → KeepsOver through → (groups : List Group) (dropped opened : Names) (names : Names) (w : Walked) (q : List ℕ)
    → is_among w.over q ≡ true → is_among (met_all through groups dropped opened names w).over q ≡ true
over-met_all through keeps groups dropped opened [] w q h = h
over-met_all through keeps groups dropped opened (name ∷ names) w q h =
    over-met_all through keeps groups dropped opened names (met through dropped opened name (members_of groups name) w) q
    (over-met through keeps dropped opened name (members_of groups name) w q h)

over-walk : (depth : ℕ) (groups : List Group) (dropped : Names) → KeepsOver (walk depth groups dropped)
unfolding walk
over-walk zero groups dropped opened names w q h = h
over-walk (suc depth) groups dropped opened names w q h = over-met_all (walk depth groups dropped) (over-walk depth groups dropped) groups dropped opened names w q h

-- ---- the aliases that can still be opened
abbrev pub open_or_over : Names → Walked → List ℕ → Bool
open_or_over opened w q = is_among opened q || is_among w.over q

abbrev pub can_open : List Group → Names → Walked → ℕ
can_open groups opened w = fresh (open_or_over opened w) one_each groups

can-later : (groups : List Group) (opened : Names) (w v : Walked) → ((q : List ℕ) → is_among w.over q ≡ true → is_among v.over q ≡ true) → can_open groups opened v ≤ can_open groups opened w
can-later groups opened w v more =
    fresh-less (open_or_over opened w) (open_or_over opened v) one_each
    (λ q h. ⊎_elim (λ o. or-left _ _ o) (λ o. or-right (is_among opened q) _ (more q o)) (or-split _ _ h)) groups

can-opened : (groups : List Group) (opened : Names) (name : List ℕ) (these : Names) (w : Walked) → members_of groups name ≡ Some these → is_among opened name ≡ false → is_among w.over name ≡ false
    → can_open groups (opened ++ name ∷ []) w + 1 ≤ can_open groups opened w
can-opened groups opened name these w some outside apart =
    fresh-begun (open_or_over opened w) (open_or_over (opened ++ name ∷ []) w) one_each
    (λ q h. ⊎_elim (λ o. or-left _ _ (among-old opened name q o)) (λ o. or-right (is_among (opened ++ name ∷ []) q) _ o) (or-split _ _ h))
    name these
    (ap (λ (b : Bool). b || is_among w.over name) outside ∙ apart)
    (or-left _ _ (among-new opened name name (same-refl name)))
    groups some

-- ---- a walk that is deep enough
abbrev pub IsDeep : List Group → Names → ℕ → Type 0
IsDeep groups dropped depth = (opened names : Names) (w : Walked) → can_open groups opened w < depth → walk depth groups dropped opened names w ≡ walk (suc depth) groups dropped opened names w

deep-met : (groups : List Group) (dropped : Names) (depth : ℕ) → IsDeep groups dropped depth → (opened : Names) (name : List ℕ) (members : Option Names) (w : Walked)
    → members_of groups name ≡ members → can_open groups opened w < suc depth
    → met (walk depth groups dropped) dropped opened name members w ≡ met (walk (suc depth) groups dropped) dropped opened name members w
deep-met groups dropped depth deep opened name None w is room = refl
deep-met groups dropped depth deep opened name (Some these) w is room = go (is_among opened name) refl (is_among w.over name) refl
  where
    go : (b : Bool) → is_among opened name ≡ b → (o : Bool) → is_among w.over name ≡ o
        → (if b then named dropped opened name w else if o then w else closed name (walk depth groups dropped (opened ++ name ∷ []) these w))
        ≡ (if b then named dropped opened name w else if o then w else closed name (walk (suc depth) groups dropped (opened ++ name ∷ []) these w))
    go true inside o over = refl
    go false outside true over = refl
    go false outside false apart =
        let fewer = can-opened groups opened name these w is outside apart in
        ap (closed name) (deep (opened ++ name ∷ []) these w (omega arith))

deep-met_all : (groups : List Group) (dropped : Names) (depth : ℕ) → IsDeep groups dropped depth → (opened names : Names) (w : Walked) → can_open groups opened w < suc depth
    → met_all (walk depth groups dropped) groups dropped opened names w ≡ met_all (walk (suc depth) groups dropped) groups dropped opened names w
deep-met_all groups dropped depth deep opened [] w room = refl
deep-met_all groups dropped depth deep opened (name ∷ names) w room =
    let next : Walked = met (walk depth groups dropped) dropped opened name (members_of groups name) w in
    let fewer = can-later groups opened w next (λ q h. over-met (walk depth groups dropped) (over-walk depth groups dropped) dropped opened name (members_of groups name) w q h) in
    deep-met_all groups dropped depth deep opened names next (omega arith)
    ∙ ap (λ (v : Walked). met_all (walk (suc depth) groups dropped) groups dropped opened names v) (deep-met groups dropped depth deep opened name (members_of groups name) w refl room)

deep-walk : (groups : List Group) (dropped : Names) (depth : ℕ) → IsDeep groups dropped depth
unfolding walk
deep-walk groups dropped zero opened names w room = absurd (omega arith)
deep-walk groups dropped (suc depth) opened names w room = deep-met_all groups dropped depth (deep-walk groups dropped depth) opened names w room

at-most-all : (groups : List Group) → can_open groups [] nothing ≤ length groups
at-most-all [] = omega arith
at-most-all (g ∷ gs) = let rest = at-most-all gs in omega arith

pub depth-suffices : DepthSuffices
depth-suffices groups dropped names depth deep = deep-walk groups dropped depth [] names nothing (let most = at-most-all groups in omega arith)
