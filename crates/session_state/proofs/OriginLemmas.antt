-- Where lines that wait come from.
use Rattle.std.proofs.Common.{◌≡◌, ◌-◌, ◌≤◌, ℕ, suc, List, [], ◌∷◌, ◌++◌, length, refl, sym, ◌∙◌, ap, subst, arith, append_assoc}
use Rattle.std.proofs.lemmas.List.{append-nil}
use Rattle.std.specs.Prelude.{slice_get}
use Rattle.std.specs.declared.option.Option.{Option}
use Rattle.std.specs.declared.option.Option.TheVariants.{Some, None}
use Rattle.read_commands.specs.declared.origin.Origin.{Origin}
use Rattle.session_state.specs.declared.frames.WaitingLine.{WaitingLine}
use Rattle.session_state.specs.Waits.{Pending}
use Rattle.session_state.specs.Pending.{taken, own_line, or_own, capped}
use Rattle.session_state.specs.Bringing.{origin_at, origin_of, AllFrom, StaysAlike}

-- a frame in front of others isn't the innermost
origin-behind : (f : Pending) (fs : List Pending) → 1 ≤ length fs → origin_at (f ∷ fs) ≡ origin_at fs
origin-behind f fs some =
    let n : length (f ∷ fs) - 1 ≡ suc (length fs - 1) = omega arith in
    ap (λ (k : ℕ). origin_of (slice_get (f ∷ fs) k)) n

pushed-some : (fs : List Pending) (f : Pending) → 1 ≤ length (fs ++ f ∷ [])
pushed-some [] f = omega arith
pushed-some (g ∷ fs) f = omega arith

origin-pushed : (fs : List Pending) (f : Pending) → origin_at (fs ++ f ∷ []) ≡ f.origin
origin-pushed [] f = refl
origin-pushed (g ∷ fs) f = origin-behind g (fs ++ f ∷ []) (pushed-some fs f) ∙ origin-pushed fs f

-- the line that is carried out comes from where it did, whatever comes from there too
pub origin-added : (fs more : List Pending) → AllFrom (origin_at fs) more → origin_at (fs ++ more) ≡ origin_at fs
origin-added fs [] all = ap origin_at (append-nil fs)
origin-added fs (f ∷ more) all =
    let here : origin_at (fs ++ f ∷ []) ≡ origin_at fs = origin-pushed fs f ∙ all.0 in
    ap origin_at (sym (append_assoc fs (f ∷ []) more)) ∙ (origin-added (fs ++ f ∷ []) more (subst (λ (o : Origin). AllFrom o more) (sym here) all.1) ∙ here)

pub all-added : (from : Origin) (fs more : List Pending) → AllFrom from fs → AllFrom from more → AllFrom from (fs ++ more)
all-added from [] more a b = b
all-added from (f ∷ fs) more a b = (a.0, all-added from fs more a.1 b)

-- what is brought comes from where the line does
pub brought-alike : (fs gs more : List Pending) → AllFrom (origin_at fs) more → gs ≡ fs ++ more → StaysAlike fs gs
brought-alike fs gs more alike is all = subst (AllFrom (origin_at fs)) (sym is) (all-added (origin_at fs) fs more all alike)

-- if all lines come from somewhere, so do those that wait after the one that is carried out
pub all-alike : (from : Origin) (fs gs : List Pending) → origin_at fs ≡ from → AllFrom from fs → StaysAlike fs gs → AllFrom from gs
all-alike from fs gs at all alike = subst (λ (o : Origin). AllFrom o gs) at (alike (subst (λ (o : Origin). AllFrom o fs) (sym at) all))

-- what is taken comes from there, and so does all that is left
abbrev pub TookFrom : Origin → Option (WaitingLine × List Pending) → Type 0
TookFrom from None = Unit {0}
TookFrom from (Some t) = (t.0.origin ≡ from) × (origin_at t.1 ≡ from) × AllFrom from t.1

in-front : (from : Origin) (f : Pending) (fs : List Pending) → f.origin ≡ from → origin_at fs ≡ from → origin_at (f ∷ fs) ≡ from
in-front from f [] is at = is
in-front from f (g ∷ fs) is at = origin-behind f (g ∷ fs) (omega arith) ∙ at

own-from : (from : Origin) (f : Pending) (lines : List (List ℕ)) → f.origin ≡ from → TookFrom from (own_line f lines)
own-from from f [] is = tt
own-from from f (l ∷ ls) is = (is, is, (is, tt))

or-from : (from : Origin) (f : Pending) (t : Option (WaitingLine × List Pending)) → f.origin ≡ from → TookFrom from t → TookFrom from (or_own f t)
or-from from f None is took = own-from from f f.lines is
or-from from f (Some t) is took = (took.0, in-front from f t.1 is took.1, (is, took.2))

pub taken-from : (from : Origin) (fs : List Pending) → AllFrom from fs → TookFrom from (taken fs)
taken-from from [] all = tt
taken-from from (f ∷ fs) all = or-from from f (taken fs) all.0 (taken-from from fs all.1)

pub all-capped : (from : Origin) (depth : ℕ) (fs : List Pending) → AllFrom from fs → AllFrom from (capped depth fs)
all-capped from depth [] all = tt
all-capped from depth (f ∷ fs) all = (all.0, all-capped from depth fs all.1)
