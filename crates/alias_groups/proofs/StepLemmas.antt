-- The steps of a walk on a stack.
use Rattle.std.proofs.Common.{◌≡◌, ◌≤◌, ◌<◌, ℕ, suc, List, [], ◌∷◌, ◌++◌, refl, sym, ap, subst, ◌∙◌, true, false, Bool, arith, length, length-append}
use Rattle.std.specs.Prelude.{if◌then◌else◌, ◌&&◌, ◌||◌, sum_by, MatchOption}
use Rattle.std.specs.Borrow.{Bor}
use Rattle.std.specs.declared.option.Option.{Option}
use Rattle.std.specs.declared.option.Option.TheVariants.{Some, None}
use Rattle.std.specs.Map.{keys_of}
use Rattle.std.proofs.lemmas.List.Sums.{sum_by_push}
use Rattle.alias_groups.specs.Groups.{Group, members_of}
use Rattle.name_lists.specs.Names.{has_name, with_name}
use Rattle.alias_groups.specs.Unwinding.{Fits, IsClosed, IsDone, IsNext, IsTooLong, Walking, finished, fresh, has_begun, named_in, one_each, opened_in, start, steps_of, unwound, walked}
use Rattle.alias_groups.specs.Walk.{Walked, is_among, is_within, met, named, with_alias}
use Rattle.alias_groups.proofs.FreshLemmas.{begun-closed, begun-now, begun-opened, fresh-begun, fresh-less}
use Rattle.alias_groups.proofs.WalkLemmas.{Levels, Names, met-inside, met-name, met-opened, met-over, unwound-closed, unwound-met, unwound-more, unwound-opened, walk-done}

-- a name that is added, on the stack
walked-named : (dropped : Names) (w : Walking) (name : List ℕ) → named dropped (keys_of w.inside) name (walked w) ≡ walked (named_in dropped w name)
walked-named dropped w name = go (is_within (keys_of w.inside) && has_name dropped name)
  where
    go : (b : Bool) → (if b then walked w else record (walked w) { added = with_name w.added name })
        ≡ record { over = w.over; added = (if b then walked w else record (walked w) { added = with_name w.added name }).added }
    go true = refl
    go false = refl

-- the depth that is left suffices
depth-left : (groups : List Group) (w : Walking) → Fits groups w → length w.inside < suc (length groups)
depth-left groups w fits = let d = fits.depth in omega arith

module _ (groups : List Group) (dropped : Names) (w : Walking) (name : List ℕ) (left : Names) (fits : Fits groups w) where
  -- ---- a name that isn't walked through
  plain-same : (v : Walked) → ((through : Names → Names → Walked → Walked) → met through dropped (keys_of w.inside) name (members_of groups name) (walked w) ≡ v)
      → finished groups dropped w (name ∷ left) ≡ unwound (suc (length groups)) groups dropped [] w.inside left v
  plain-same v step = unwound-met groups dropped name left (walked w) v w.inside (suc (length groups)) [] (depth-left groups w fits) step

  named-same : ((through : Names → Names → Walked → Walked) → met through dropped (keys_of w.inside) name (members_of groups name) (walked w) ≡ named dropped (keys_of w.inside) name (walked w))
      → finished groups dropped w (name ∷ left) ≡ finished groups dropped (named_in dropped w name) left
  named-same step =
      plain-same (named dropped (keys_of w.inside) name (walked w)) step
      ∙ ap (λ (v : Walked). unwound (suc (length groups)) groups dropped [] w.inside left v) (walked-named dropped w name)

  named-next : ((through : Names → Names → Walked → Walked) → met through dropped (keys_of w.inside) name (members_of groups name) (walked w) ≡ named dropped (keys_of w.inside) name (walked w))
      → (new : Walking) → new ≡ named_in dropped w name → length new.added ≤ 10000 → IsNext groups dropped w (name ∷ left) new left
  named-next step new is few =
      subst (λ (n : Walking). length n.added ≤ 10000 → IsNext groups dropped w (name ∷ left) n left) (sym is)
      (λ few'. record {
        fits = record { depth = fits.depth; few = few' };
        same = named-same step;
        less = omega arith;
      }) few

  named-long : ((through : Names → Names → Walked → Walked) → met through dropped (keys_of w.inside) name (members_of groups name) (walked w) ≡ named dropped (keys_of w.inside) name (walked w))
      → 10000 < length (named_in dropped w name).added → IsTooLong groups dropped w (name ∷ left)
  named-long step long =
      let more = unwound-more groups dropped left (walked (named_in dropped w name)) w.inside (suc (length groups)) [] in
      let count : length (finished groups dropped w (name ∷ left)).added ≡ length (finished groups dropped (named_in dropped w name) left).added =
      ap (λ (v : Walked). length v.added) (named-same step) in
      omega arith

  pub next_name : (new : Walking) → members_of groups name ≡ None → new ≡ named_in dropped w name → length new.added ≤ 10000 → IsNext groups dropped w (name ∷ left) new left
  next_name new none = named-next (λ through. met-name through dropped (keys_of w.inside) name (members_of groups name) (walked w) none) new

  pub long_name : members_of groups name ≡ None → 10000 < length (named_in dropped w name).added → IsTooLong groups dropped w (name ∷ left)
  long_name none = named-long (λ through. met-name through dropped (keys_of w.inside) name (members_of groups name) (walked w) none)

  pub next_inside : (these : Names) (new : Walking) → members_of groups name ≡ Some these → is_among (keys_of w.inside) name ≡ true
      → new ≡ named_in dropped w name → length new.added ≤ 10000 → IsNext groups dropped w (name ∷ left) new left
  next_inside these new some inside = named-next (λ through. met-inside through dropped (keys_of w.inside) name (members_of groups name) these (walked w) some inside) new

  pub long_inside : (these : Names) → members_of groups name ≡ Some these → is_among (keys_of w.inside) name ≡ true
      → 10000 < length (named_in dropped w name).added → IsTooLong groups dropped w (name ∷ left)
  long_inside these some inside = named-long (λ through. met-inside through dropped (keys_of w.inside) name (members_of groups name) these (walked w) some inside)

  pub next_over : (these : Names) → members_of groups name ≡ Some these → is_among (keys_of w.inside) name ≡ false → is_among w.over name ≡ true → IsNext groups dropped w (name ∷ left) w left
  next_over these some outside over = record {
    fits = fits;
    same = plain-same (walked w) (λ through. met-over through dropped (keys_of w.inside) name (members_of groups name) these (walked w) some outside over);
    less = omega arith;
  }

  -- ---- an alias that is walked through
  pub next_opened : (these : Names) (new : Walking) → members_of groups name ≡ Some these → is_among (keys_of w.inside) name ≡ false → is_among w.over name ≡ false
      → new ≡ opened_in w name left → IsNext groups dropped w (name ∷ left) new these
  next_opened these new some outside fresh-one is =
      let before : has_begun w.inside w.over name ≡ false = ap (λ (b : Bool). b || is_among w.over name) outside ∙ fresh-one in
      let fewer = λ (weight : Names → ℕ). fresh-begun (has_begun w.inside w.over) (has_begun (w.inside ++ (name, left) ∷ []) w.over) weight
      (begun-opened w.inside w.over (name, left)) name these before (begun-now w.inside w.over (name, left)) groups some in
      let ones = fewer one_each in
      let works = fewer steps_of in
      let count = length-append w.inside ((name, left) ∷ []) in
      let sum = sum_by_push (λ (level : List ℕ × Names). steps_of level.1) w.inside (name, left) in
      let d = fits.depth in
      subst (λ (n : Walking). IsNext groups dropped w (name ∷ left) n these) (sym is)
      (record {
        fits = record { depth = (omega arith); few = fits.few };
        same = unwound-opened groups dropped name left (walked w) (walked w) w.inside (suc (length groups)) [] these (depth-left groups w fits)
            (λ through. met-opened through dropped (keys_of w.inside) name (members_of groups name) these (walked w) some outside fresh-one);
        less = (omega arith);
      })

-- ---- a list is done
pub next_closed : (groups : List Group) (dropped : Names) (w : Walking) (left : Names) (new : Walking) → Fits groups w → IsClosed w left new → IsNext groups dropped w [] new left
next_closed groups dropped w left new fits is =
    let level : List ℕ × Names = (is.name, left) in
    let begun : (q : List ℕ) → has_begun (new.inside ++ level ∷ []) w.over q ≡ true → has_begun new.inside (with_alias w.over is.name) q ≡ true = begun-closed new.inside w.over level in
    let fewer = λ (weight : Names → ℕ). fresh-less (has_begun (new.inside ++ level ∷ []) w.over) (has_begun new.inside (with_alias w.over is.name)) weight begun groups in
    let ones = fewer one_each in
    let works = fewer steps_of in
    let count = length-append new.inside (level ∷ []) in
    let sum = sum_by_push (λ (l : List ℕ × Names). steps_of l.1) new.inside level in
    let old-inside = is.inside in
    let old-ones : fresh (has_begun w.inside w.over) one_each groups ≡ fresh (has_begun (new.inside ++ level ∷ []) w.over) one_each groups =
    ap (λ (i : Levels). fresh (has_begun i w.over) one_each groups) old-inside in
    let old-works : fresh (has_begun w.inside w.over) steps_of groups ≡ fresh (has_begun (new.inside ++ level ∷ []) w.over) steps_of groups =
    ap (λ (i : Levels). fresh (has_begun i w.over) steps_of groups) old-inside in
    let new-ones : fresh (has_begun new.inside new.over) one_each groups ≡ fresh (has_begun new.inside (with_alias w.over is.name)) one_each groups =
    ap (λ (o : Names). fresh (has_begun new.inside o) one_each groups) is.over in
    let new-works : fresh (has_begun new.inside new.over) steps_of groups ≡ fresh (has_begun new.inside (with_alias w.over is.name)) steps_of groups =
    ap (λ (o : Names). fresh (has_begun new.inside o) steps_of groups) is.over in
    let old-count : length w.inside ≡ length (new.inside ++ level ∷ []) = ap (λ (i : Levels). length i) old-inside in
    let old-sum : sum_by (λ (l : List ℕ × Names). steps_of l.1) w.inside ≡ sum_by (λ (l : List ℕ × Names). steps_of l.1) (new.inside ++ level ∷ []) =
    ap (λ (i : Levels). sum_by (λ (l : List ℕ × Names). steps_of l.1) i) old-inside in
    let names : length new.added ≡ length w.added = ap (λ (n : Names). length n) is.added in
    let d = fits.depth in
    let f = fits.few in
    record {
      fits = record { depth = (omega arith); few = (omega arith) };
      same =
          ap (λ (i : Levels). unwound (suc (length groups)) groups dropped [] i [] (walked w)) old-inside
          ∙ unwound-closed groups dropped is.name left (walked w) new.inside (suc (length groups)) []
          ∙ (λ j. unwound (suc (length groups)) groups dropped [] new.inside left (record { over = sym is.over j; added = sym is.added j }));
      less = (omega arith);
    }

pub next_done : (groups : List Group) (dropped : Names) (w new : Walking) → Fits groups w → w.inside ≡ [] → new ≡ w → IsDone groups dropped w [] new
next_done groups dropped w new fits none is =
    subst (λ (n : Walking). IsDone groups dropped w [] n) (sym is)
    (record {
      few = fits.few;
      same = ap (λ (i : Levels). unwound (suc (length groups)) groups dropped [] i [] (walked w)) none ∙ walk-done (suc (length groups)) groups dropped [] (walked w);
    })

-- ---- a walk that begins
one-for-each : (groups : List Group) → fresh (has_begun [] []) one_each groups ≤ length groups
one-for-each [] = omega arith
one-for-each (g ∷ gs) = let rest = one-for-each gs in omega arith

pub start_fits : (groups : List Group) (w : Walking) → w ≡ start → Fits groups w
start_fits groups w is = subst (λ (n : Walking). Fits groups n) (sym is) (record { depth = (let all = one-for-each groups in omega arith); few = (omega arith) })

-- ---- the list that is left is empty
nothing-left : (left : Names) → length left ≡ 0 → left ≡ []
nothing-left [] h = refl
nothing-left (x ∷ xs) h = absurd (omega arith)

pub step_closed : (groups : List Group) (dropped : Names) (w new : Walking) (left : Names) (o : Option (Bor Names)) → Fits groups w → length left ≡ 0
    → MatchOption o ((w.inside ≡ []) × (new ≡ w)) (λ l. IsClosed w l.now new)
    → MatchOption o (IsDone groups dropped w left new) (λ l. IsNext groups dropped w left new l.now)
step_closed groups dropped w new left None fits none h =
    subst (λ (l : Names). IsDone groups dropped w l new) (sym (nothing-left left none)) (next_done groups dropped w new fits h.0 h.1)
step_closed groups dropped w new left (Some l) fits none h =
    subst (λ (m : Names). IsNext groups dropped w m new l.now) (sym (nothing-left left none)) (next_closed groups dropped w l.now new fits h)
