-- What is stopped is the calls of a program too.
use Rattle.std.proofs.Common.{◌≡◌, ◌⊎◌, true, List, [], ◌∷◌, ◌++◌, refl, ap, sym, subst, inl, inr, ◌∙◌, append_assoc}
use Rattle.std.proofs.lemmas.List.{map-append}
use Rattle.host_port.specs.declared.event.Event.{Event}
use Rattle.host_port.specs.declared.event.Event.TheVariants as event
use Rattle.host_port.specs.declared.event.Part.{Part}
use Rattle.host_port.specs.Calls.{LoadFits}
use Rattle.host_port.specs.Disk.{Disk}
use Rattle.host_port.specs.Ends.{cut_short}
use Rattle.commit_machine.specs.Jobs.{Job}
use Rattle.commit_machine.specs.Settled.{Mem}
use Rattle.commit_machine.specs.Machine.{State, Seizing, Ended, next, after_reply}
use Rattle.commit_machine.specs.Goes.{Goes, reply}
use Rattle.commit_machine.proofs.runs.Stops.{cut_next}
use Rattle.commit_driver.specs.Did.{LoadsFit}
use Rattle.commit_driver.proofs.WithinLemmas.{fits-both}
use Rattle.core_steps.specs.declared.actor.Actor.{Actor}
use Rattle.core_steps.specs.declared.actor.Task.{Task}
use Rattle.core_steps.specs.Tasks.{job_of}
use Rattle.core_steps.specs.Programs.{Work, may_begin, for_task, IsWork, AreWorks}
use Rattle.session_play.specs.Committing.{Commit}
use Rattle.run_laws.specs.Programs.{IsAsked, IsProgramOf, StoppedArePrograms}
use Rattle.run_laws.proofs.CallLemmas.{events_of, events_for, in_left, in_right, AreAsked, asked_for, and_then, at_last}

-- ---- lists
same_head : (x y : Event) (xs ys : List Event) → x ∷ xs ≡ y ∷ ys → x ≡ y
same_head x y xs ys is = cc is

same_tail : (x y : Event) (xs ys : List Event) → x ∷ xs ≡ y ∷ ys → xs ≡ ys
same_tail x y xs ys is = cc is

-- the first of two lists ends before that event, or behind it
split : (a b front rest : List Event) (e : Event) → a ++ b ≡ front ++ e ∷ rest
    → ((more : List Event) × (front ≡ a ++ more) × (b ≡ more ++ e ∷ rest)) ⊎ ((more : List Event) × (a ≡ front ++ e ∷ more))
split [] b front rest e is = inl (front, refl, is)
split (x ∷ a) b [] rest e is = inr (a, ap (λ (y : Event). y ∷ a) (same_head x e (a ++ b) rest is))
split (x ∷ a) b (y ∷ front) rest e is = elim (split a b front rest e (same_tail x y (a ++ b) (front ++ e ∷ rest) is)) [
  | inl w ↦ inl (w.0, ap (λ (l : List Event). y ∷ l) w.1 ∙ ap (λ (z : Event). z ∷ (a ++ w.0)) (sym (same_head x y (a ++ b) (front ++ e ∷ rest) is)), w.2)
  | inr w ↦ inr (w.0, ap (λ (z : Event). z ∷ a) (same_head x y (a ++ b) (front ++ e ∷ rest) is) ∙ ap (λ (l : List Event). y ∷ l) w.1)
]

not_empty : (front rest : List Event) (e : Event) → [] ≡ front ++ e ∷ rest → ⊥
not_empty [] rest e is = cc is
not_empty (x ∷ front) rest e is = cc is

-- ---- loads
fit_left : (xs ys : List Event) → LoadsFit (xs ++ ys) → LoadsFit xs
fit_left xs ys fit = λ e at. fit e (in_left e xs ys at)

fit_right : (xs ys : List Event) → LoadsFit (xs ++ ys) → LoadsFit ys
fit_right xs ys fit = λ e at. fit e (in_right e xs ys at)

-- a part of a load is the load
fit_cut : (d : Disk) (part : Part) (e : Event) → LoadFits e → LoadFits (cut_short d e part)
fit_cut d part (event.Load n s) fit = fit
fit_cut d part e fit = tt

fit_alone : (e : Event) → LoadFits e → (x : Event) → Mem x (e ∷ []) → LoadFits x
fit_alone e fit x (inl is) = subst LoadFits (sym is) fit
fit_alone e fit x (inr never) = absurd never

fit_stopped : (front rest : List Event) (e : Event) (d : Disk) (part : Part) → LoadsFit (front ++ e ∷ rest) → LoadsFit (front ++ cut_short d e part ∷ [])
fit_stopped front rest e d part fit =
    let here : LoadFits e = fit_right front (e ∷ rest) fit e (inl refl) in
    fits-both front (cut_short d e part ∷ []) (fit_left front (e ∷ rest) fit) (λ x at. fit_alone (cut_short d e part) (fit_cut d part e here) x at)

-- ---- the machine up to an event, and with a part of it in its place
goes_cut : (j : Job) (front rest : List Event) (e : Event) (s last : State) → Goes j s (front ++ e ∷ rest) last
    → ((mid : State) × Goes j s front mid) × ((d : Disk) (part : Part) → (mid : State) × Goes j s (front ++ cut_short d e part ∷ []) mid)
goes_cut j [] rest e s last goes =
    ((s, inl refl), λ d part. (after_reply j goes.0 (reply (cut_short d e part)), (goes.0, goes.1, cut_next d part (next j goes.0) e goes.2, inl refl)))
goes_cut j (x ∷ front) rest e s last goes =
    let more = goes_cut j front rest e (after_reply j goes.0 (reply x)) last goes.3 in
    ((more.0.0, (goes.0, goes.1, goes.2, more.0.1)), λ d part. (let w = more.1 d part in (w.0, (goes.0, goes.1, goes.2, w.1))))

-- ---- what calls are for
asked_here : (cs : List Commit) (t : Task) (e : Event) (es : List Event) → Mem e es → AreAsked cs (for_task t es) → IsAsked cs t
asked_here cs t e [] never asked = absurd never
asked_here cs t e (y ∷ es) (inl is) asked = asked (t, y) (inl refl)
asked_here cs t e (y ∷ es) (inr at) asked = asked_here cs t e es at (λ x at. asked x (inr at))

module _ (actors : List Actor) (a : Actor) (cs : List Commit) where
  abbrev Is : List Event → Type 0
  Is es = IsProgramOf actors a cs es

  abbrev Cut : List Event → Event → Type 0
  Cut front e = Is front × ((d : Disk) (part : Part) → Is (front ++ cut_short d e part ∷ []))

  -- where it is stopped in this commit or recovery
  in_one : (t : Task) (front rest : List Event) (e : Event) (s : State) → may_begin actors a t ≡ true → AreAsked cs (for_task t (front ++ e ∷ rest))
      → LoadsFit (front ++ e ∷ rest) → Goes (job_of a t) Seizing (front ++ e ∷ rest) s → Cut front e
  in_one t front rest e s may asked fit goes =
      let w = goes_cut (job_of a t) front rest e Seizing s goes in
      let is : IsAsked cs t = asked_here cs t e (front ++ e ∷ rest) (in_right e front (e ∷ rest) (inl refl)) asked in (
        at_last actors a cs t front w.0.0 may (asked_for cs t front is) (fit_left front (e ∷ rest) fit) w.0.1,
        λ d part. (
            let v = w.1 d part in
            let l = front ++ cut_short d e part ∷ [] in
            at_last actors a cs t l v.0 may (asked_for cs t l is) (fit_stopped front rest e d part fit) v.1),
      )

  -- where it is stopped behind it
  behind : (w : Work) (front more : List Event) (e : Event) → IsWork actors a w → AreAsked cs (for_task w.task w.calls) → LoadsFit w.calls → front ≡ w.calls ++ more
      → Cut more e → Cut front e
  behind w front more e work asked fit is cut = (
    subst Is (sym is) (and_then actors a cs w more work asked fit cut.0),
    λ d part. subst Is (sym (ap (λ (l : List Event). l ++ cut_short d e part ∷ []) is ∙ append_assoc w.calls more (cut_short d e part ∷ [])))
        (and_then actors a cs w (more ++ cut_short d e part ∷ []) work asked fit (cut.1 d part)),
  )

  cut_works : (works : List Work) (xs : List (Task × Event)) (front rest : List Event) (e : Event) → AreWorks actors a works xs → events_of xs ≡ front ++ e ∷ rest
      → AreAsked cs xs → LoadsFit (front ++ e ∷ rest) → Cut front e
  cut_works [] xs front rest e (inl none) is asked fit = absurd (not_empty front rest e (sym (ap (λ (l : List (Task × Event)). events_of l) none) ∙ is))
  cut_works [] xs front rest e (inr (t, es, s, xs_is, may, goes)) is asked fit =
      let es_is : es ≡ front ++ e ∷ rest = sym (events_for t es) ∙ (sym (ap (λ (l : List (Task × Event)). events_of l) xs_is) ∙ is) in
      let asked_so : AreAsked cs (for_task t (front ++ e ∷ rest)) = subst (λ (l : List Event). AreAsked cs (for_task t l)) es_is (subst (AreAsked cs) xs_is asked) in
      in_one t front rest e s may asked_so fit (subst (λ (l : List Event). Goes (job_of a t) Seizing l s) es_is goes)
  cut_works (w ∷ ws) xs front rest e (more, xs_is, work, works) is asked fit =
      let parts : events_of xs ≡ w.calls ++ events_of more =
      ap (λ (l : List (Task × Event)). events_of l) xs_is ∙ map-append (λ (x : Task × Event). x.1) (for_task w.task w.calls) more
      ∙ ap (λ (l : List Event). l ++ events_of more) (events_for w.task w.calls) in
      let whole : w.calls ++ events_of more ≡ front ++ e ∷ rest = sym parts ∙ is in
      let both : LoadsFit (w.calls ++ events_of more) = subst LoadsFit (sym whole) fit in
      let here : AreAsked cs (for_task w.task w.calls ++ more) = subst (AreAsked cs) xs_is asked in
      let first : AreAsked cs (for_task w.task w.calls) = λ x at. here x (in_left x (for_task w.task w.calls) more at) in
      elim (split w.calls (events_of more) front rest e whole) [
        | inl v ↦
            behind w front v.0 e work first (fit_left w.calls (events_of more) both) v.1
            (cut_works ws more v.0 rest e works v.2 (λ x at. here x (in_right x (for_task w.task w.calls) more at)) (subst LoadsFit v.2 (fit_right w.calls (events_of more) both)))
        | inr v ↦
            in_one w.task front v.0 e (Ended w.end) work.0 (subst (λ (l : List Event). AreAsked cs (for_task w.task l)) v.1 first) (subst LoadsFit v.1 (fit_left w.calls (events_of more) both))
            (subst (λ (l : List Event). Goes (job_of a w.task) Seizing l (Ended w.end)) v.1 work.1)
      ]

pub stopped_are_programs : StoppedArePrograms
stopped_are_programs actors a cs front rest e is =
    cut_works actors a cs is.program.0 is.calls front rest e is.program.1 is.events is.asked is.fit
