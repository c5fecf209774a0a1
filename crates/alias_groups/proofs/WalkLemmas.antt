-- The walk by recursion against the one on a stack.
use Rattle.std.proofs.Common.{◌≡◌, ◌≤◌, ◌<◌, ℕ, zero, suc, List, [], ◌∷◌, ◌++◌, refl, sym, ap, subst, ◌∙◌, true, false, Bool, arith, length, length-append, append_assoc}
use Rattle.std.specs.Prelude.{if◌then◌else◌, ◌&&◌}
use Rattle.std.specs.declared.option.Option.{Option}
use Rattle.std.specs.declared.option.Option.TheVariants.{Some, None}
use Rattle.std.specs.Map.{keys_of}
use Rattle.std.proofs.lemmas.Bool.{cond-true, cond-false}
use Rattle.std.proofs.lemmas.List.{append-nil}
use Rattle.alias_groups.specs.Groups.{Group, members_of}
use Rattle.name_lists.specs.Names.{has_name, with_name}
use Rattle.alias_groups.specs.Unwinding.{below, unwound}
use Rattle.alias_groups.specs.Walk.{Walked, closed, is_among, is_within, met, met_all, named, walk}

abbrev pub Names : Type 0
Names = List (List ℕ)

abbrev pub Levels : Type 0
Levels = List (List ℕ × Names)

-- ---- one name that is met
pub met-name : (through : Names → Names → Walked → Walked) (dropped opened : Names) (name : List ℕ) (members : Option Names) (w : Walked)
    → members ≡ None → met through dropped opened name members w ≡ named dropped opened name w
met-name through dropped opened name members w none = ap (λ (o : Option Names). met through dropped opened name o w) none

pub met-inside : (through : Names → Names → Walked → Walked) (dropped opened : Names) (name : List ℕ) (members : Option Names) (these : Names) (w : Walked)
    → members ≡ Some these → is_among opened name ≡ true → met through dropped opened name members w ≡ named dropped opened name w
met-inside through dropped opened name members these w some inside = ap (λ (o : Option Names). met through dropped opened name o w) some ∙ cond-true _ _ _ inside

pub met-over : (through : Names → Names → Walked → Walked) (dropped opened : Names) (name : List ℕ) (members : Option Names) (these : Names) (w : Walked)
    → members ≡ Some these → is_among opened name ≡ false → is_among w.over name ≡ true → met through dropped opened name members w ≡ w
met-over through dropped opened name members these w some outside over =
    ap (λ (o : Option Names). met through dropped opened name o w) some ∙ cond-false _ _ _ outside ∙ cond-true _ _ _ over

pub met-opened : (through : Names → Names → Walked → Walked) (dropped opened : Names) (name : List ℕ) (members : Option Names) (these : Names) (w : Walked)
    → members ≡ Some these → is_among opened name ≡ false → is_among w.over name ≡ false
    → met through dropped opened name members w ≡ closed name (through (opened ++ name ∷ []) these w)
met-opened through dropped opened name members these w some outside fresh =
    ap (λ (o : Option Names). met through dropped opened name o w) some ∙ cond-false _ _ _ outside ∙ cond-false _ _ _ fresh

-- ---- the innermost list goes on
inner : (opened : Names) (level : List ℕ × Names) (levels : Levels) → (opened ++ level.0 ∷ []) ++ keys_of levels ≡ opened ++ keys_of (level ∷ levels)
inner opened level levels = append_assoc opened (level.0 ∷ []) (keys_of levels)

module _ (groups : List Group) (dropped : Names) (name : List ℕ) (left : Names) (w v : Walked) where
  pub unwound-met : (levels : Levels) (depth : ℕ) (opened : Names) → length levels < depth
      → ((through : Names → Names → Walked → Walked) → met through dropped (opened ++ keys_of levels) name (members_of groups name) w ≡ v)
      → unwound depth groups dropped opened levels (name ∷ left) w ≡ unwound depth groups dropped opened levels left v
  unfolding walk
  unwound-met [] zero opened h step = absurd (omega arith)
  unwound-met [] (suc depth) opened h step =
      let here : met (walk depth groups dropped) dropped opened name (members_of groups name) w ≡ v =
      ap (λ (o : Names). met (walk depth groups dropped) dropped o name (members_of groups name) w) (sym (append-nil opened)) ∙ step (walk depth groups dropped) in
      ap (λ (u : Walked). met_all (walk depth groups dropped) groups dropped opened left u) here
  unwound-met (level ∷ levels) zero opened h step = absurd (omega arith)
  unwound-met (level ∷ levels) (suc depth) opened h step =
      ap (λ (u : Walked). walk (suc depth) groups dropped opened level.1 (closed level.0 u))
      (unwound-met levels depth (opened ++ level.0 ∷ []) (omega arith)
      (λ through. ap (λ (o : Names). met through dropped o name (members_of groups name) w) (inner opened level levels) ∙ step through))

  pub unwound-opened : (levels : Levels) (depth : ℕ) (opened : Names) (these : Names) → length levels < depth
      → ((through : Names → Names → Walked → Walked)
      → met through dropped (opened ++ keys_of levels) name (members_of groups name) w ≡ closed name (through ((opened ++ keys_of levels) ++ name ∷ []) these w))
      → unwound depth groups dropped opened levels (name ∷ left) w ≡ unwound depth groups dropped opened (levels ++ (name, left) ∷ []) these w
  unfolding walk
  unwound-opened [] zero opened these h step = absurd (omega arith)
  unwound-opened [] (suc depth) opened these h step =
      let at : (o : Names) → o ≡ opened → met (walk depth groups dropped) dropped o name (members_of groups name) w ≡ closed name (walk depth groups dropped (o ++ name ∷ []) these w)
      → met (walk depth groups dropped) dropped opened name (members_of groups name) w ≡ closed name (walk depth groups dropped (opened ++ name ∷ []) these w)
      = λ o is. subst (λ (p : Names). met (walk depth groups dropped) dropped p name (members_of groups name) w ≡ closed name (walk depth groups dropped (p ++ name ∷ []) these w)) is in
      let here = at (opened ++ []) (append-nil opened) (step (walk depth groups dropped)) in
      ap (λ (u : Walked). met_all (walk depth groups dropped) groups dropped opened left u) here
  unwound-opened (level ∷ levels) zero opened these h step = absurd (omega arith)
  unwound-opened (level ∷ levels) (suc depth) opened these h step =
      ap (λ (u : Walked). walk (suc depth) groups dropped opened level.1 (closed level.0 u))
      (unwound-opened levels depth (opened ++ level.0 ∷ []) these (omega arith)
      (λ through. subst (λ (o : Names). met through dropped o name (members_of groups name) w ≡ closed name (through (o ++ name ∷ []) these w)) (sym (inner opened level levels)) (step through)))

-- ---- a list is done
pub walk-done : (depth : ℕ) (groups : List Group) (dropped opened : Names) (w : Walked) → walk depth groups dropped opened [] w ≡ w
unfolding walk
walk-done zero groups dropped opened w = refl
walk-done (suc depth) groups dropped opened w = refl

pub unwound-closed : (groups : List Group) (dropped : Names) (name : List ℕ) (left : Names) (w : Walked) (levels : Levels) (depth : ℕ) (opened : Names)
    → unwound depth groups dropped opened (levels ++ (name, left) ∷ []) [] w ≡ unwound depth groups dropped opened levels left (closed name w)
unwound-closed groups dropped name left w [] depth opened =
    ap (λ (u : Walked). walk depth groups dropped opened left (closed name u)) (walk-done (below depth) groups dropped (opened ++ name ∷ []) w)
unwound-closed groups dropped name left w (level ∷ levels) depth opened =
    ap (λ (u : Walked). walk depth groups dropped opened level.1 (closed level.0 u)) (unwound-closed groups dropped name left w levels (below depth) (opened ++ level.0 ∷ []))

-- ---- names are never taken away
with-name-more : (names : Names) (name : List ℕ) → length names ≤ length (with_name names name)
with-name-more names name = go (has_name names name)
  where
    go : (b : Bool) → length names ≤ length (if b then names else names ++ name ∷ [])
    go true = omega arith
    go false = let e = length-append names (name ∷ []) in omega arith

named-more : (dropped opened : Names) (name : List ℕ) (w : Walked) → length w.added ≤ length (named dropped opened name w).added
named-more dropped opened name w = go (is_within opened && has_name dropped name)
  where
    go : (b : Bool) → length w.added ≤ length (if b then w else record w { added = with_name w.added name }).added
    go true = omega arith
    go false = with-name-more w.added name

met-more : (through : Names → Names → Walked → Walked) → ((opened names : Names) (w : Walked) → length w.added ≤ length (through opened names w).added)
    → (dropped opened : Names) (name : List ℕ) (members : Option Names) (w : Walked) → length w.added ≤ length (met through dropped opened name members w).added
met-more through more dropped opened name None w = named-more dropped opened name w
met-more through more dropped opened name (Some members) w = go (is_among opened name) (is_among w.over name)
  where
    go : (b o : Bool) → length w.added ≤ length (if b then named dropped opened name w else if o then w else closed name (through (opened ++ name ∷ []) members w)).added
    go true o = named-more dropped opened name w
    go false true = omega arith
    go false false = more (opened ++ name ∷ []) members w

met-all-more : (through : Names → Names → Walked → Walked) → ((opened names : Names) (w : Walked) → length w.added ≤ length (through opened names w).added)
    → (groups : List Group) (dropped opened : Names) (names : Names) (w : Walked) → length w.added ≤ length (met_all through groups dropped opened names w).added
met-all-more through more groups dropped opened [] w = omega arith
met-all-more through more groups dropped opened (name ∷ names) w =
    let first = met-more through more dropped opened name (members_of groups name) w in
    let rest = met-all-more through more groups dropped opened names (met through dropped opened name (members_of groups name) w) in
    omega arith

pub walk-more : (depth : ℕ) (groups : List Group) (dropped opened names : Names) (w : Walked) → length w.added ≤ length (walk depth groups dropped opened names w).added
unfolding walk
walk-more zero groups dropped opened names w = omega arith
walk-more (suc depth) groups dropped opened names w = met-all-more (walk depth groups dropped) (walk-more depth groups dropped) groups dropped opened names w

pub unwound-more : (groups : List Group) (dropped : Names) (left : Names) (w : Walked) (levels : Levels) (depth : ℕ) (opened : Names)
    → length w.added ≤ length (unwound depth groups dropped opened levels left w).added
unwound-more groups dropped left w [] depth opened = walk-more depth groups dropped opened left w
unwound-more groups dropped left w (level ∷ levels) depth opened =
    let within = unwound-more groups dropped left w levels (below depth) (opened ++ level.0 ∷ []) in
    let around = walk-more depth groups dropped opened level.1 (closed level.0 (unwound (below depth) groups dropped (opened ++ level.0 ∷ []) levels left w)) in
    omega arith
