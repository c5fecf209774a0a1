-- Programs whose traces are honest are answered as the one disk stands.
use Rattle.std.proofs.Common.{◌≡◌, ◌==◌, ℕ, Bool, true, false, List, [], ◌∷◌, ◌++◌, map, refl, ap, sym, subst, inl, inr, ◌∙◌}
use Rattle.std.proofs.lemmas.Bool.{cases_Bool, eqb-true, eqb-false, eq-eqb}
use Rattle.host_port.specs.declared.event.Event.{Event}
use Rattle.host_port.specs.declared.event.Event.TheVariants as event
use Rattle.host_port.specs.declared.event.ForeignStep.{ForeignStep}
use Rattle.host_port.specs.Disk.{Disk, after, after_step, disk}
use Rattle.host_port.specs.Own.{own}
use Rattle.host_port.specs.Ran.{Agrees, Honest}
use Rattle.host_port.specs.Calls.{LoadFits}
use Rattle.commit_machine.specs.Settled.{Mem}
use Rattle.commit_machine.specs.Laws.{is_foreign}
use Rattle.core_steps.specs.Cores.{CoreDisk, seen_by, disk_then}
use Rattle.core_steps.specs.Programs.{Deed, disk_once, done_of, AreAnswered}
use Rattle.core_steps.specs.Traces.{SeesOne, IsTraced, StopsAreLast, TracesAreRuns}
use Rattle.core_steps.proofs.Views.{seen-own}
use Rattle.core_fact.proofs.Runs.{done-here, done-there}

abbrev AllWithin : List Event → Type 0
AllWithin es = (e : Event) → Mem e es → LoadFits e

-- steps of others come before
honest-past : (steps : List ForeignStep) (d : Disk) (more : List Event) → Honest d (map event.Foreign steps ++ more) → Honest (disk d (map event.Foreign steps)) more
honest-past [] d more h = h
honest-past (f ∷ steps) d more h = honest-past steps (after_step d f) more h.1

own-past : (steps : List ForeignStep) (more : List Event) → own (map event.Foreign steps ++ more) ≡ own more
own-past [] more = refl
own-past (f ∷ steps) more = own-past steps more

within-first : (e : Event) (more : List Event) → AllWithin (own (e ∷ more)) → LoadFits e
within-first (event.Foreign f) more h = tt
within-first e more h = h e (inl refl)

within-rest : (e : Event) (more : List Event) → AllWithin (own (e ∷ more)) → AllWithin (own more)
within-rest (event.Foreign f) more h = h
within-rest e more h = λ x m. h x (inr m)

-- what a trace has of a call, its own or another's
own_call : (old now : Disk) (b : Bool) (e : Event) (es more : List Event) → b ≡ true → SeesOne b old now e es more → (es ≡ e ∷ more) × (is_foreign e ≡ false)
own_call old now true e es more is h = h
own_call old now false e es more is h = absurd (cc)

other_call : (old now : Disk) (b : Bool) (e : Event) (es more : List Event) → b ≡ false → SeesOne b old now e es more
    → (steps : List ForeignStep) × (es ≡ map event.Foreign steps ++ more) × (disk old (map event.Foreign steps) ≡ now)
other_call old now true e es more is h = absurd (cc)
other_call old now false e es more is h = h

module _ (d : CoreDisk) (x : Deed) (xs : List Deed) where
  -- what its actor sees after the call
  seen_then : is_foreign x.event ≡ false → x.stops ≡ false → after (seen_by x.actor d) x.event ≡ seen_by x.actor (disk_once d x)
  seen_then own_event lives = let h : disk_once d x ≡ disk_then x.actor d (after (seen_by x.actor d) x.event) = rw lives refl in sym (ap (seen_by x.actor) h ∙ seen-own x.actor d x.event own_event)

  -- the call was answered so
  first_answered : IsTraced x.actor d (x ∷ xs) → Agrees (seen_by x.actor d) x.event × LoadFits x.event
  first_answered (inl none) = let h : (x.task, x.event) ∷ done_of x.actor xs ≡ [] = sym (done-here x xs) ∙ none in absurd (cc)
  first_answered (inr t) =
      let s = own_call (seen_by x.actor d) (seen_by x.actor (disk_once d x)) (x.actor == x.actor) x.event t.0 t.1.0 (eq-eqb x.actor x.actor refl) t.1.1 in
      let honest : Honest (seen_by x.actor d) (x.event ∷ t.1.0) = subst (Honest (seen_by x.actor d)) s.0 t.2 in
      let within : AllWithin (own (x.event ∷ t.1.0)) = subst (λ (es : List Event). AllWithin (own es)) s.0 t.3 in
      (honest.0, within-first x.event t.1.0 within)

  -- the trace of the one that made it goes on
  own_then : (x.stops ≡ true → done_of x.actor xs ≡ []) → IsTraced x.actor d (x ∷ xs) → IsTraced x.actor (disk_once d x) xs
  own_then stops (inl none) = let h : (x.task, x.event) ∷ done_of x.actor xs ≡ [] = sym (done-here x xs) ∙ none in absurd (cc)
  own_then stops (inr t) = elim (cases_Bool x.stops) [
    | inl y ↦ inl (stops y)
    | inr lives ↦ (
        let s = own_call (seen_by x.actor d) (seen_by x.actor (disk_once d x)) (x.actor == x.actor) x.event t.0 t.1.0 (eq-eqb x.actor x.actor refl) t.1.1 in
        let honest : Honest (seen_by x.actor d) (x.event ∷ t.1.0) = subst (Honest (seen_by x.actor d)) s.0 t.2 in
        let within : AllWithin (own (x.event ∷ t.1.0)) = subst (λ (es : List Event). AllWithin (own es)) s.0 t.3 in
        inr (t.1.0, t.1.2, subst (λ (z : Disk). Honest z t.1.0) (seen_then s.1 lives) honest.1, within-rest x.event t.1.0 within))
  ]

  -- so does that of another
  other_then : (i : ℕ) → (i ≡ x.actor → ⊥) → IsTraced i d (x ∷ xs) → IsTraced i (disk_once d x) xs
  other_then i ne (inl none) = inl (sym (done-there i x xs ne) ∙ none)
  other_then i ne (inr t) =
      let s = other_call (seen_by i d) (seen_by i (disk_once d x)) (x.actor == i) x.event t.0 t.1.0 (apart i ne) t.1.1 in
      let honest : Honest (seen_by i d) (map event.Foreign s.0 ++ t.1.0) = subst (Honest (seen_by i d)) s.1 t.2 in
      let within : AllWithin (own (map event.Foreign s.0 ++ t.1.0)) = subst (λ (es : List Event). AllWithin (own es)) s.1 t.3 in
      inr (t.1.0, t.1.2, subst (λ (z : Disk). Honest z t.1.0) s.2 (honest-past s.0 (seen_by i d) t.1.0 honest), subst AllWithin (own-past s.0 t.1.0) within)
    where
      apart : (i : ℕ) → (i ≡ x.actor → ⊥) → (x.actor == i) ≡ false
      apart i ne = elim (cases_Bool (x.actor == i)) [ inl y ↦ absurd (ne (sym (eqb-true x.actor i y))) | inr n ↦ n ]

  all_then : (x.stops ≡ true → done_of x.actor xs ≡ []) → ((k : ℕ) → IsTraced k d (x ∷ xs)) → (k : ℕ) → IsTraced k (disk_once d x) xs
  all_then stops traces i = elim (cases_Bool (i == x.actor)) [
    | inl y ↦ (let e : i ≡ x.actor = eqb-true i x.actor y in subst (λ (z : ℕ). IsTraced z (disk_once d x) xs) (sym e) (own_then stops (traces x.actor)))
    | inr n ↦ other_then i (eqb-false i x.actor n) (traces i)
  ]

traced-answered : (deeds : List Deed) (d : CoreDisk) → ((k : ℕ) → IsTraced k d deeds) → StopsAreLast deeds → AreAnswered d deeds
traced-answered [] d traces stops = tt
traced-answered (x ∷ xs) d traces stops =
    let f = first_answered d x xs (traces x.actor) in
    (f.0, f.1, stops.0, traced-answered xs (disk_once d x) (all_then d x xs stops.0 traces) stops.1)

-- the law
pub traces-are-runs : TracesAreRuns
traces-are-runs files locks actors deeds traces stops programs = record { answered = traced-answered deeds _ traces stops; programs = programs }
