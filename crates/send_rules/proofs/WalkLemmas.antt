-- What a walk over aliases has added stays, and later names are met after it.
use Rattle.std.proofs.Common.{◌≡◌, ℕ, zero, suc, List, [], ◌∷◌, ◌++◌, refl, sym, ap, ◌∙◌, true, false, Bool, append_assoc, length}
use Rattle.std.specs.Prelude.{if◌then◌else◌, ◌&&◌}
use Rattle.std.specs.declared.option.Option.{Option}
use Rattle.std.specs.declared.option.Option.TheVariants.{Some, None}
use Rattle.std.proofs.lemmas.List.{append-nil}
use Rattle.alias_groups.specs.declared.own.Own.{Own}
use Rattle.alias_groups.specs.Expansion.{dropped_names, expansion}
use Rattle.alias_groups.specs.Groups.{Group, members_of}
use Rattle.name_lists.specs.Names.{has_name, with_name}
use Rattle.alias_groups.specs.Walk.{Walked, closed, is_among, is_within, met, met_all, named, nothing, walk}

abbrev Names : Type 0
Names = List (List ℕ)

abbrev Through : Type 0
Through = Names → Names → Walked → Walked

-- a walk that has come further has all that was added before, first
abbrev IsFurther : Walked → Walked → Type 0
IsFurther w v = (more : Names) × (v.added ≡ w.added ++ more)

further-same : (w : Walked) → IsFurther w w
further-same w = ([], sym (append-nil w.added))

further-on : (w v u : Walked) → IsFurther w v → IsFurther v u → IsFurther w u
further-on w v u first second =
    (first.0 ++ second.0, second.1 ∙ ap (λ (l : Names). l ++ second.0) first.1 ∙ append_assoc w.added first.0 second.0)

further-name : (name : List ℕ) (w : Walked) → IsFurther w (record w { added = with_name w.added name })
further-name name w = go (has_name w.added name)
  where
    go : (b : Bool) → (more : Names) × ((if b then w.added else w.added ++ name ∷ []) ≡ w.added ++ more)
    go true = ([], sym (append-nil w.added))
    go false = (name ∷ [], refl)

further-named : (dropped opened : Names) (name : List ℕ) (w : Walked) → IsFurther w (named dropped opened name w)
further-named dropped opened name w = go (is_within opened && has_name dropped name)
  where
    go : (b : Bool) → IsFurther w (if b then w else record w { added = with_name w.added name })
    go true = further-same w
    go false = further-name name w

abbrev GoesOn : Through → Type 0
GoesOn through = (opened names : Names) (w : Walked) → IsFurther w (through opened names w)

further-met : (through : Through) → GoesOn through → (dropped opened : Names) (name : List ℕ) (members : Option Names) (w : Walked)
    → IsFurther w (met through dropped opened name members w)
further-met through goes dropped opened name None w = further-named dropped opened name w
further-met through goes dropped opened name (Some members) w = go (is_among opened name) (is_among w.over name)
  where
    go : (b o : Bool) → IsFurther w (if b then named dropped opened name w else if o then w else closed name (through (opened ++ name ∷ []) members w))
    go true o = further-named dropped opened name w
    go false true = further-same w
    go false false = goes (opened ++ name ∷ []) members w

further-met_all : (through : Through) → GoesOn through → (groups : List Group) (dropped opened names : Names) (w : Walked)
    → IsFurther w (met_all through groups dropped opened names w)
further-met_all through goes groups dropped opened [] w = further-same w
further-met_all through goes groups dropped opened (name ∷ names) w =
    let next : Walked = met through dropped opened name (members_of groups name) w in
    further-on w next (met_all through groups dropped opened names next)
    (further-met through goes dropped opened name (members_of groups name) w)
    (further-met_all through goes groups dropped opened names next)

further-walk : (depth : ℕ) (groups : List Group) (dropped : Names) → GoesOn (walk depth groups dropped)
unfolding walk
further-walk zero groups dropped opened names w = further-same w
further-walk (suc depth) groups dropped opened names w =
    further-met_all (walk depth groups dropped) (further-walk depth groups dropped) groups dropped opened names w

-- names that follow others are met after them
met-behind : (through : Through) (groups : List Group) (dropped opened names later : Names) (w : Walked)
    → met_all through groups dropped opened (names ++ later) w
    ≡ met_all through groups dropped opened later (met_all through groups dropped opened names w)
met-behind through groups dropped opened [] later w = refl
met-behind through groups dropped opened (name ∷ names) later w =
    met-behind through groups dropped opened names later (met through dropped opened name (members_of groups name) w)

walk-behind : (depth : ℕ) (groups : List Group) (dropped names later : Names) (w : Walked)
    → walk (suc depth) groups dropped [] (names ++ later) w
    ≡ walk (suc depth) groups dropped [] later (walk (suc depth) groups dropped [] names w)
unfolding walk
walk-behind depth groups dropped names later w = met-behind (walk depth groups dropped) groups dropped [] names later w

-- what names stand for begins with what the first of them stand for
pub later-names-add : (groups : List Group) (own : Own) (metoo : Bool) (names later : Names)
    → (added : Names) × (expansion groups own metoo (names ++ later) ≡ expansion groups own metoo names ++ added)
later-names-add groups own metoo names later =
    let depth : ℕ = length groups in
    let first : Walked = walk (suc depth) groups (dropped_names own metoo) [] names nothing in
    let more = further-walk (suc depth) groups (dropped_names own metoo) [] later first in
    (more.0, ap (λ (v : Walked). v.added) (walk-behind depth groups (dropped_names own metoo) names later nothing) ∙ more.1)
