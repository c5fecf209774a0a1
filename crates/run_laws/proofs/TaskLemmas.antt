-- Calls of programs that run at once, each with what it is for.
use Rattle.std.proofs.Common.{◌≡◌, ◌==◌, ℕ, Bool, true, false, List, [], ◌∷◌, map, if◌then◌else◌, refl, ap, sym, subst, inl, inr, ◌∙◌}
use Rattle.std.proofs.lemmas.Bool.{cases_Bool, eqb-true, eqb-false}
use Rattle.host_port.specs.declared.event.Event.{Event}
use Rattle.commit_driver.specs.Did.{LoadsFit}
use Rattle.core_steps.specs.declared.actor.Task.{Task}
use Rattle.core_steps.specs.declared.actor.Task.TheVariants as task
use Rattle.core_steps.specs.Cores.{CoreDisk}
use Rattle.core_steps.specs.Programs.{Deed, disk_once, disk_after, done_of, AreAnswered}
use Rattle.core_fact.proofs.Runs.{done-here, done-there}
use Rattle.run_laws.specs.Together.{bare, calls_of, AreTold}
use Rattle.run_laws.proofs.CallLemmas.{events_of}

-- ---- the first of some calls
abbrev pair : Task → Event → Task × Event
pair t e = (t, e)

abbrev first_task : List (Task × Event) → Task
first_task [] = task.Recover
first_task (x ∷ xs) = x.0

abbrev rest_of : List (Task × Event) → List (Task × Event)
rest_of [] = []
rest_of (x ∷ xs) = xs

none_left : (xs : List (Task × Event)) → events_of xs ≡ [] → xs ≡ []
none_left [] is = refl
none_left (x ∷ xs) is = absurd (cc is)

head_same : (x y : Event) (xs ys : List Event) → x ∷ xs ≡ y ∷ ys → x ≡ y
head_same x y xs ys is = cc is

tail_same : (x y : Event) (xs ys : List Event) → x ∷ xs ≡ y ∷ ys → xs ≡ ys
tail_same x y xs ys is = cc is

no_more : (e : Event) (es : List Event) → [] ≡ e ∷ es → ⊥
no_more e es is = cc is

first_is : (xs : List (Task × Event)) (e : Event) (es : List Event) → events_of xs ≡ e ∷ es → xs ≡ pair (first_task xs) e ∷ rest_of xs
first_is [] e es is = absurd (no_more e es is)
first_is ((t, f) ∷ xs) e es is = ap (λ (z : Event). pair t z ∷ xs) (head_same f e (events_of xs) es is)

rest_is : (xs : List (Task × Event)) (e : Event) (es : List Event) → events_of xs ≡ e ∷ es → events_of (rest_of xs) ≡ es
rest_is [] e es is = absurd (no_more e es is)
rest_is ((t, f) ∷ xs) e es is = tail_same f e (events_of xs) es is

-- ---- the calls of an actor
calls_here : (k : ℕ) (x : Deed) (xs : List Deed) → (x.actor == k) ≡ true → calls_of k (x ∷ xs) ≡ x.event ∷ calls_of k xs
calls_here k x xs y =
    subst (λ (m : ℕ). calls_of m (x ∷ xs) ≡ x.event ∷ calls_of m xs) (eqb-true x.actor k y) (ap (λ (l : List (Task × Event)). events_of l) (done-here x xs))

calls_there : (k : ℕ) (x : Deed) (xs : List Deed) → (x.actor == k) ≡ false → calls_of k (x ∷ xs) ≡ calls_of k xs
calls_there k x xs n = ap (λ (l : List (Task × Event)). events_of l) (done-there k x xs (λ e. eqb-false x.actor k n (sym e)))

loads_then : (x : Deed) (xs : List Deed) → ((k : ℕ) → LoadsFit (calls_of k (x ∷ xs))) → (k : ℕ) → LoadsFit (calls_of k xs)
loads_then x xs loads k = elim (cases_Bool (x.actor == k)) [
  | inl y ↦ (let at = subst LoadsFit (calls_here k x xs y) (loads k) in λ e m. at e (inr m))
  | inr n ↦ subst LoadsFit (calls_there k x xs n) (loads k)
]

loads_first : (x : Deed) (xs : List Deed) → ((k : ℕ) → LoadsFit (calls_of k (x ∷ xs))) → LoadsFit (x.event ∷ calls_of x.actor xs)
loads_first x xs loads = subst LoadsFit (ap (λ (l : List (Task × Event)). events_of l) (done-here x xs)) (loads x.actor)

-- ---- what is to come of each actor, with what it is for
abbrev pub Known : Type 0
Known = ℕ → List (Task × Event)

abbrev pub AreKnown : Known → List Deed → Type 0
AreKnown c deeds = (k : ℕ) → events_of (c k) ≡ calls_of k deeds

abbrev later : Known → Deed → Known
later c x k = if x.actor == k then rest_of (c k) else c k

abbrev pub named : Known → List Deed → List Deed
named c [] = []
named c (x ∷ xs) = record { actor = x.actor; task = first_task (c x.actor); event = x.event; stops = x.stops } ∷ named (later c x) xs

known_then : (c : Known) (x : Deed) (xs : List Deed) → AreKnown c (x ∷ xs) → AreKnown (later c x) xs
known_then c x xs known k = go (x.actor == k) refl
  where
    go : (b : Bool) → (x.actor == k) ≡ b → events_of (if b then rest_of (c k) else c k) ≡ calls_of k xs
    go true y = rest_is (c k) x.event (calls_of k xs) (known k ∙ calls_here k x xs y)
    go false n = known k ∙ calls_there k x xs n

pub done_named : (deeds : List Deed) (c : Known) → AreKnown c deeds → (k : ℕ) → done_of k (named c deeds) ≡ c k
done_named [] c known k = sym (none_left (c k) (known k))
done_named (x ∷ xs) c known k = go (x.actor == k) refl (done_named xs (later c x) (known_then c x xs known) k)
  where
    behind : List (Task × Event)
    behind = done_of k (named (later c x) xs)

    go : (b : Bool) → (x.actor == k) ≡ b → behind ≡ later c x k → (if b then pair (first_task (c x.actor)) x.event ∷ behind else behind) ≡ c k
    go true y more =
        let left : later c x k ≡ rest_of (c k) = ap (λ (b : Bool). if b then rest_of (c k) else c k) y in
        ap (λ (m : ℕ). pair (first_task (c m)) x.event ∷ behind) (eqb-true x.actor k y)
        ∙ ap (λ (l : List (Task × Event)). pair (first_task (c k)) x.event ∷ l) (more ∙ left)
        ∙ sym (first_is (c k) x.event (calls_of k xs) (known k ∙ calls_here k x xs y))
    go false n more = more ∙ ap (λ (b : Bool). if b then rest_of (c k) else c k) n

pub bare_named : (deeds : List Deed) (c : Known) → map bare (named c deeds) ≡ map bare deeds
bare_named [] c = refl
bare_named (x ∷ xs) c = ap (λ (l : List (ℕ × Event × Bool)). bare x ∷ l) (bare_named xs (later c x))

pub disk_named : (deeds : List Deed) (c : Known) (d : CoreDisk) → disk_after d (named c deeds) ≡ disk_after d deeds
disk_named [] c d = refl
disk_named (x ∷ xs) c d = disk_named xs (later c x) (disk_once d x)

pub answered_named : (deeds : List Deed) (c : Known) (d : CoreDisk) → AreKnown c deeds → ((k : ℕ) → LoadsFit (calls_of k deeds)) → AreTold d deeds → AreAnswered d (named c deeds)
answered_named [] c d known loads told = tt
answered_named (x ∷ xs) c d known loads told =
    let now = known_then c x xs known in (
      told.0,
      loads_first x xs loads x.event (inl refl),
      λ stops. (
          let none = now x.actor ∙ ap (λ (l : List (Task × Event)). events_of l) (told.1 stops) in
          done_named xs (later c x) now x.actor ∙ none_left (later c x x.actor) none),
      answered_named xs (later c x) (disk_once d x) now (loads_then x xs loads) told.2,
    )
