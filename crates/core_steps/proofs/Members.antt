-- The members of a state, by number.
use Rattle.std.proofs.Common.{◌≡◌, ◌≢◌, ◌⊎◌, ◌-◌, ◌==◌, zero, suc, ℕ, Bool, true, false, List, [], ◌∷◌, map, Option, Some, None, if◌then◌else◌, refl, ap, sym, subst, inl, inr, ◌∙◌, arith}
use Rattle.std.proofs.lemmas.Bool.{eqb-true, eq-eqb}
use Rattle.std.specs.Prelude.{slice_get, slice_set}
use Rattle.commit_machine.specs.Settled.{Mem}
use Rattle.core_steps.specs.declared.actor.Actor.{Actor}
use Rattle.core_steps.specs.declared.actor.Doing.{Doing}
use Rattle.core_steps.specs.declared.actor.Member.{Member}
use Rattle.core_steps.specs.Cores.{member_at}
use Rattle.core_steps.proofs.Settled.{both}

got_named : (ms : List Member) (i : ℕ) (m : Member) → slice_get ms i ≡ Some m → Mem m.actor.name (map (λ m. m.actor.name) ms)
got_named [] i m e = absurd (cc)
got_named (x ∷ xs) zero m e = let w : x ≡ m = cc in inl (ap (λ (z : Member). z.actor.name) (sym w))
got_named (x ∷ xs) (suc i) m e = inr (got_named xs i m e)

-- what doesn't change of one member doesn't change of all
same_all : {X : Type 0} (f : Member → X) (ms : List Member) (i : ℕ) (m new : Member) → slice_get ms i ≡ Some m → f new ≡ f m → map f (slice_set ms i new) ≡ map f ms
same_all f [] i m new e same = refl
same_all {X} f (x ∷ xs) zero m new e same = let w : x ≡ m = cc in ap (λ (z : X). z ∷ map f xs) (same ∙ sym (ap f w))
same_all {X} f (x ∷ xs) (suc i) m new e same = ap (λ (zs : List X). f x ∷ zs) (same_all f xs i m new e same)

get_set : (ms : List Member) (i : ℕ) (m new : Member) → slice_get ms i ≡ Some m → slice_get (slice_set ms i new) i ≡ Some new
get_set [] i m new e = absurd (cc)
get_set (x ∷ xs) zero m new e = refl
get_set (x ∷ xs) (suc i) m new e = get_set xs i m new e

get_other : (ms : List Member) (i l : ℕ) (new : Member) → l ≢ i → slice_get (slice_set ms i new) l ≡ slice_get ms l
get_other [] i l new ne = refl
get_other (x ∷ xs) zero zero new ne = absurd (ne refl)
get_other (x ∷ xs) zero (suc l) new ne = refl
get_other (x ∷ xs) (suc i) zero new ne = refl
get_other (x ∷ xs) (suc i) (suc l) new ne = get_other xs i l new (λ e. ne (ap suc e))

pub at_number : (ms : List Member) (k : ℕ) (m : Member) → member_at ms k ≡ Some m → ((k == 0) ≡ false) × (slice_get ms (k - 1) ≡ Some m)
at_number ms k m h = go (k == 0) refl h
  where
    go : (b : Bool) → (k == 0) ≡ b → (if b then None else slice_get ms (k - 1)) ≡ Some m → ((k == 0) ≡ false) × (slice_get ms (k - 1) ≡ Some m)
    go true e x = absurd (cc)
    go false e x = (e, x)

pub member_named : (ms : List Member) (k : ℕ) (m : Member) → member_at ms k ≡ Some m → Mem m.actor.name (map (λ m. m.actor.name) ms)
member_named ms k m h = got_named ms (k - 1) m (at_number ms k m h).1

pub same_after : {X : Type 0} (f : Member → X) (ms : List Member) (k : ℕ) (m new : Member) → member_at ms k ≡ Some m → f new ≡ f m → map f (slice_set ms (k - 1) new) ≡ map f ms
same_after f ms k m new h same = same_all f ms (k - 1) m new (at_number ms k m h).1 same

not_zero : (k : ℕ) → (k == 0) ≡ false → k ≢ 0
not_zero k h e = both (k == 0) (eq-eqb k 0 e) h

apart : (i k : ℕ) → i ≢ 0 → k ≢ 0 → i ≢ k → (i - 1) ≢ (k - 1)
apart i k a b ne e = ne (omega arith)

-- after a change of one member each is the new one or one that was there
pub member_then : (ms : List Member) (k i : ℕ) (m new x : Member) → member_at ms k ≡ Some m → member_at (slice_set ms (k - 1) new) i ≡ Some x
    → ((i ≡ k) × (x ≡ new)) ⊎ ((i ≢ k) × (member_at ms i ≡ Some x))
member_then ms k i m new x at h = go (i == k) refl
  where
    was : ((k == 0) ≡ false) × (slice_get ms (k - 1) ≡ Some m)
    was = at_number ms k m at

    now : ((i == 0) ≡ false) × (slice_get (slice_set ms (k - 1) new) (i - 1) ≡ Some x)
    now = at_number (slice_set ms (k - 1) new) i x h

    go : (b : Bool) → (i == k) ≡ b → ((i ≡ k) × (x ≡ new)) ⊎ ((i ≢ k) × (member_at ms i ≡ Some x))
    go true e =
        let same : i ≡ k = eqb-true i k e in
        let here : slice_get (slice_set ms (k - 1) new) (k - 1) ≡ Some x = subst (λ (z : ℕ). slice_get (slice_set ms (k - 1) new) (z - 1) ≡ Some x) same now.1 in
        let there : slice_get (slice_set ms (k - 1) new) (k - 1) ≡ Some new = get_set ms (k - 1) m new was.1 in
        let w : Some x ≡ Some new = sym here ∙ there in
        inl (same, (cc))
    go false e =
        let ne : i ≢ k = λ p. both (i == k) (eq-eqb i k p) e in
        let there : slice_get ms (i - 1) ≡ Some x = sym (get_other ms (k - 1) (i - 1) new (apart i k (not_zero i now.0) (not_zero k was.0) ne)) ∙ now.1 in
        let zero_not : (i == 0) ≡ false = now.0 in
        inr (ne, rw zero_not there)

-- one number has one member
pub one_member : (ms : List Member) (k : ℕ) (a b : Actor) (x y : Doing) → member_at ms k ≡ Some (record { actor = a; doing = x }) → member_at ms k ≡ Some (record { actor = b; doing = y }) → a ≡ b
one_member ms k a b x y p q = let w : Some (record { actor = a; doing = x }) ≡ Some (record { actor = b; doing = y }) = sym p ∙ q in ap (λ (m : Option Member). actor_in m) w
  where
    actor_in : Option Member → Actor
    actor_in None = a
    actor_in (Some m) = m.actor

-- the new one is there
pub member_new : (ms : List Member) (k : ℕ) (m new : Member) → member_at ms k ≡ Some m → member_at (slice_set ms (k - 1) new) k ≡ Some new
member_new ms k m new at =
    let w = at_number ms k m at in
    let zero_not : (k == 0) ≡ false = w.0 in
    rw zero_not (get_set ms (k - 1) m new w.1)

-- and each other is as it was
pub member_kept : (ms : List Member) (k i : ℕ) (m new x : Member) → member_at ms k ≡ Some m → i ≢ k → member_at ms i ≡ Some x → member_at (slice_set ms (k - 1) new) i ≡ Some x
member_kept ms k i m new x at ne h =
    let w = at_number ms k m at in
    let v = at_number ms i x h in
    let zero_not : (i == 0) ≡ false = v.0 in
    rw zero_not (get_other ms (k - 1) (i - 1) new (apart i k (not_zero i v.0) (not_zero k w.0) ne) ∙ v.1)
