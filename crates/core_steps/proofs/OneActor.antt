-- The events of a commit or of a recovery are the steps of an actor that began with it.
use Rattle.std.proofs.Common.{◌≡◌, ◌⊎◌, ℕ, true, false, List, [], ◌∷◌, ◌++◌, Some, refl, ap, sym, subst, inl, inr, ◌∙◌}
use Rattle.host_port.specs.declared.event.Event.{Event}
use Rattle.host_port.specs.declared.event.Event.TheVariants as event
use Rattle.host_port.specs.declared.event.Seen.TheVariants as seen
use Rattle.host_port.specs.Disk.{Disk, after, after_step}
use Rattle.host_port.specs.Own.{own}
use Rattle.host_port.specs.Ran.{Agrees, Honest}
use Rattle.host_port.specs.Calls.{LoadFits}
use Rattle.commit_machine.specs.Settled.{Mem}
use Rattle.commit_machine.specs.Jobs.{Ending}
use Rattle.commit_machine.specs.Machine.{State, Seizing, Timing, Looking, Ended, Call, ToLoad, next, after_reply, refused, wanted}
use Rattle.commit_machine.specs.Goes.{IsNext, Goes, reply}
use Rattle.core_steps.specs.declared.actor.Actor.{Actor}
use Rattle.core_steps.specs.declared.actor.Task.{Task}
use Rattle.core_steps.specs.declared.actor.Past.{Past}
use Rattle.core_steps.specs.declared.actor.Past.TheVariants.{Shown, Wanted}
use Rattle.core_steps.specs.Tasks.{job_of, on_time, state_of, may_want}
use Rattle.core_steps.specs.Shown.{next_of, IsStepOf, has_wanted, Wants, OrOnceWanted, IsShortLoad, AreSteps, BracketsAreSteps}
use Rattle.core_steps.proofs.Settled.{both}
use Rattle.std.proofs.lemmas.Bool.{cases_Bool}
use Rattle.actor_ground.proofs.EndLemmas.{calls-end-so}
use Rattle.core_steps.proofs.Turning.{state_shown, state_wanted}
use Rattle.core_steps.proofs.Wanting.{is_asking, refused_not}
use Rattle.core_steps.proofs.Closing.{IsClosing, closing_same, refused_closes, closing_reply, closing_loads}
use Rattle.core_steps.proofs.OneCall.{wanted_shown, failed_is, short_is, next_call, short_load, on_time_same, refused_on_time, is_now, not_asking, asking_now}

-- what happened brings the actor to the machine's state, and once memory was wanted that is of a clean-up
record IsPlaceOf (a : Actor) (t : Task) (past : List Past) (s : State) : Type 0 where
  state : state_of a t past ≡ on_time s
  closing : has_wanted past ≡ true → IsClosing s

module _ (a : Actor) (t : Task) where
  at_call : (past : List Past) (s : State) → IsPlaceOf a t past s → is_asking s ≡ false → state_of a t past ≡ s
  at_call past s place nay = place.state ∙ on_time_same s nay

  shown_place : (past : List Past) (s : State) (e : Event) → IsPlaceOf a t past s → is_asking s ≡ false → IsPlaceOf a t (past ++ Shown e ∷ []) (after_reply (job_of a t) s (reply e))
  shown_place past s e place nay = record {
    state = state_shown a t past e ∙ ap (λ (z : State). on_time (after_reply (job_of a t) z (reply e))) (at_call past s place nay);
    closing = λ h. closing_reply (job_of a t) s (reply e) (place.closing (sym (wanted_shown past e) ∙ h));
  }

  -- the state in which the next call comes: this one, or once memory was wanted
  abbrev IsOnceWanted : List Past → State → Type 0
  IsOnceWanted past now = Wants a t past (past ++ Wanted ∷ []) × IsPlaceOf a t (past ++ Wanted ∷ []) now × (is_asking now ≡ false)

  chosen : (past : List Past) (s now : State) → IsPlaceOf a t past s → (now ≡ s) ⊎ (now ≡ refused (job_of a t) s) → IsPlaceOf a t past now ⊎ IsOnceWanted past now
  chosen past s now place (inl p) = inl (subst (IsPlaceOf a t past) (sym p) place)
  chosen past s now place (inr p) = elim (refused_closes (job_of a t) s) [
    | inl same ↦ inl (subst (IsPlaceOf a t past) (sym (p ∙ same)) place)
    | inr w ↦ elim (cases_Bool (has_wanted past)) [
      | inl y ↦ inl (subst (IsPlaceOf a t past) (sym (p ∙ closing_same (job_of a t) s (place.closing y))) place)
      | inr nay ↦ inr (
        (ap may_want place.state ∙ w.1, nay, refl),
        record {
          state = state_wanted a t past ∙ ap (refused (job_of a t)) place.state ∙ refused_on_time (job_of a t) s ∙ ap on_time (sym p);
          closing = λ h. subst IsClosing (sym p) w.0;
        },
        ap is_asking p ∙ refused_not (job_of a t) s,
      )
    ]
  ]

  -- the event of a call is a step, or a load for which memory ran out
  step_at : (past : List Past) (now : State) (d : Disk) (e : Event) → IsPlaceOf a t past now → is_asking now ≡ false → IsNext (next (job_of a t) now) e → Agrees d e → LoadFits e
      → IsStepOf a t past d e ⊎ ((later : List Past) × IsShortLoad a t past e later × IsPlaceOf a t later (after_reply (job_of a t) now (reply e)))
  step_at past now d e place nay is agrees within =
      let c = next_call (next (job_of a t) now) e is in
      let here : state_of a t past ≡ now = at_call past now place nay in
      let nx : next_of a t past ≡ Some c.0 = ap (next (job_of a t)) here ∙ c.1 in
      elim (calls-end-so d c.0 e c.2 agrees within) [
        | inl p ↦ inl (c.0, nx, inl p)
        | inr (inl f) ↦ inl (c.0, nx, inr (failed_is d c.0 e f))
        | inr (inr short) ↦ inr (shorted c.0 c.1 (short_is c.0 e short))
      ]
    where
      shorted : (c : Call) → next (job_of a t) now ≡ Some c → (n : List ℕ) × (c ≡ ToLoad n) × (e ≡ event.Load n seen.Memory)
          → (later : List Past) × IsShortLoad a t past e later × IsPlaceOf a t later (after_reply (job_of a t) now (reply e))
      shorted c nx (n, c_is, e_is) =
          let loads : next (job_of a t) now ≡ Some (ToLoad n) = nx ∙ ap Some c_is in
          let here : state_of a t past ≡ now = at_call past now place nay in
          let told : after_reply (job_of a t) now (reply e) ≡ wanted (job_of a t) now = ap (λ (z : Event). after_reply (job_of a t) now (reply z)) e_is in
          let unwanted : has_wanted past ≡ false = elim (cases_Bool (has_wanted past)) [ inl y ↦ absurd (closing_loads (job_of a t) now n (place.closing y) loads) | inr no_want ↦ no_want ] in
          elim (short_load (job_of a t) now n loads) [
            | inl w ↦ (
              past ++ Wanted ∷ [],
              (n, ap (next (job_of a t)) here ∙ loads, e_is, inl (ap may_want here ∙ w.0, unwanted, refl)),
              record {
                state = state_wanted a t past ∙ ap (refused (job_of a t)) here ∙ sym (on_time_same (refused (job_of a t) now) (refused_not (job_of a t) now)) ∙ ap on_time (sym (told ∙ w.1));
                closing = λ h. subst IsClosing (sym (told ∙ w.1)) w.2;
              },
            )
            | inr w ↦ (
              past ++ Shown (event.Load n seen.Failed) ∷ [],
              (n, ap (next (job_of a t)) here ∙ loads, e_is, inr (ap may_want here ∙ w.0, refl)),
              record {
                state = state_shown a t past (event.Load n seen.Failed)
                    ∙ ap (λ (z : State). on_time (after_reply (job_of a t) z (reply (event.Load n seen.Failed)))) here ∙ ap on_time (sym (told ∙ w.1));
                closing = λ h. absurd (both (has_wanted past) (sym (wanted_shown past (event.Load n seen.Failed)) ∙ h) unwanted);
              },
            )
          ]

  short_stays : (past later : List Past) (d : Disk) (e : Event) → IsShortLoad a t past e later → after d e ≡ d
  short_stays past later d e short = ap (after d) short.2

  abbrev Ends : List Past → Disk → List Event → Ending → Type 0
  Ends past d es end = (last : List Past) × AreSteps a t past d es last × (state_of a t last ≡ Ended end)

  -- an event and the steps after it
  abbrev EndsWith : List Past → Disk → Event → List Event → Ending → Type 0
  EndsWith past d e es end = (last : List Past)
      × OrOnceWanted a t past (λ now. (IsStepOf a t now d e × AreSteps a t (now ++ Shown e ∷ []) (after d e) es last)
      ⊎ ((later : List Past) × IsShortLoad a t now e later × AreSteps a t later d es last))
      × (state_of a t last ≡ Ended end)

  abbrev One : List Past → Disk → Event → List Event → List Past → Type 0
  One now d e es last = (IsStepOf a t now d e × AreSteps a t (now ++ Shown e ∷ []) (after d e) es last) ⊎ ((later : List Past) × IsShortLoad a t now e later × AreSteps a t later d es last)

  one_then : (past : List Past) (now : State) (d : Disk) (e : Event) (es : List Event) (end : Ending) → IsPlaceOf a t past now → is_asking now ≡ false → IsNext (next (job_of a t) now) e → Agrees d e
      → LoadFits e
      → ((past : List Past) → IsPlaceOf a t past (after_reply (job_of a t) now (reply e)) → Ends past (after d e) es end)
      → (last : List Past) × One past d e es last × (state_of a t last ≡ Ended end)
  one_then past now d e es end place nay is agrees within more = elim (step_at past now d e place nay is agrees within) [
    | inl step ↦ (let w = more (past ++ Shown e ∷ []) (shown_place past now e place nay) in (w.0, inl (step, w.1), w.2))
    | inr short ↦ (let w = more short.0 short.2 in (w.0, inr (short.0, short.1, subst (λ (z : Disk). AreSteps a t short.0 z es w.0) (short_stays past short.0 d e short.1) w.1), w.2))
  ]

  event_then : (past : List Past) (s now : State) (d : Disk) (e : Event) (es : List Event) (end : Ending) → IsPlaceOf a t past s → (now ≡ s) ⊎ (now ≡ refused (job_of a t) s) → is_now e ≡ false
      → IsNext (next (job_of a t) now) e → Agrees d e → LoadFits e
      → ((past : List Past) → IsPlaceOf a t past (after_reply (job_of a t) now (reply e)) → Ends past (after d e) es end)
      → EndsWith past d e es end
  event_then past s now d e es end place choice nay is agrees within more = elim (chosen past s now place choice) [
    | inl here ↦ (let w = one_then past now d e es end here (not_asking (job_of a t) now e is nay) is agrees within more in (w.0, inl w.1, w.2))
    | inr w ↦ (let v = one_then (past ++ Wanted ∷ []) now d e es end w.1 w.2 is agrees within more in (v.0, inr (past ++ Wanted ∷ [], w.0, v.1), v.2))
  ]

  bracket : (es : List Event) (past : List Past) (s : State) (d : Disk) (end : Ending) → IsPlaceOf a t past s → Goes (job_of a t) s (own es) (Ended end) → Honest d es
      → ((e : Event) → Mem e (own es) → LoadFits e) → Ends past d es end
  bracket [] past s d end place goes honest within = elim (chosen past s (Ended end) place (elim goes [ inl p ↦ inl (sym p) | inr p ↦ inr (sym p) ])) [
    | inl here ↦ (past, inl refl, here.state)
    | inr w ↦ (past ++ Wanted ∷ [], inr (past ++ Wanted ∷ [], w.0, refl), w.1.state)
  ]
  bracket (event.Foreign f ∷ es) past s d end place goes honest within = bracket es past s (after_step d f) end place goes honest.1 within
  bracket (event.Now time ∷ es) past s d end place goes honest within =
      let w = asking_now (job_of a t) goes.0 time goes.2 in
      let same : goes.0 ≡ s = elim goes.1 [ inl p ↦ p | inr p ↦ absurd (both (is_asking goes.0) (ap is_asking w.1) (ap is_asking p ∙ refused_not (job_of a t) s)) ] in
      let s_is : s ≡ Timing w.0 = sym same ∙ w.1 in
      let looks : after_reply (job_of a t) goes.0 (reply (event.Now time)) ≡ Looking = ap (λ (z : State). after_reply (job_of a t) z (reply (event.Now time))) w.1 in
      bracket es past (after_reply (job_of a t) goes.0 (reply (event.Now time))) d end
      (record {
        state = place.state ∙ ap on_time s_is ∙ ap on_time (sym looks);
        closing = λ h. absurd (subst IsClosing s_is (place.closing h));
      })
      goes.3 honest.1 (λ e m. within e (inr m))
  bracket (e ∷ es) past s d end place goes honest within =
      event_then past s goes.0 d e es end place goes.1 refl goes.2 honest.0 (within e (inl refl))
      (λ past place. bracket es past (after_reply (job_of a t) goes.0 (reply e)) (after d e) end place goes.3 honest.1 (λ x m. within x (inr m)))

pub brackets_are_steps : BracketsAreSteps
brackets_are_steps a t d es end goes honest within = bracket a t es [] Seizing d end (record { state = refl; closing = λ h. absurd (let w : false ≡ true = h in cc) }) goes honest within
