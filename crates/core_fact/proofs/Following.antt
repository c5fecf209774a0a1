-- What happened in a bracket follows the machine.
use Rattle.std.proofs.Common.{◌≡◌, ◌⊎◌, ℕ, ℤ, Bool, true, false, List, [], ◌∷◌, ◌++◌, Option, Some, None, refl, ap, sym, subst, inl, inr, ◌∙◌}
use Rattle.std.proofs.lemmas.Bool.{cases_Bool}
use Rattle.host_port.specs.declared.event.Event.{Event}
use Rattle.host_port.specs.declared.event.Event.TheVariants as event
use Rattle.host_port.specs.declared.event.Seen.TheVariants as seen
use Rattle.host_port.specs.declared.event.Part.{Part}
use Rattle.host_port.specs.declared.event.Part.TheVariants.{Before}
use Rattle.host_port.specs.Disk.{Disk}
use Rattle.commit_machine.specs.Jobs.{Job, Ending}
use Rattle.commit_machine.specs.Machine.{State, Seizing, Timing, Ended, Call, ToAsk, ToLoad, ToStage, ToPublish, ToExtend, ToErase, ToLock, ToUnlock, ToSeize, ToRelease, next, after_reply, refused}
use Rattle.commit_machine.specs.Goes.{IsOf, asks, IsNext, reply}
use Rattle.actor_ground.specs.CallEnds.{IsFailing, IsShort}
use Rattle.core_steps.specs.declared.actor.Actor.{Actor}
use Rattle.core_steps.specs.declared.actor.Task.{Task}
use Rattle.core_steps.specs.declared.actor.Past.{Past}
use Rattle.core_steps.specs.declared.actor.Past.TheVariants.{Shown, Wanted}
use Rattle.core_steps.specs.Tasks.{job_of, state_of, on_time, may_want}
use Rattle.core_steps.specs.Turns.{failing, can_fail}
use Rattle.core_steps.specs.Shown.{has_wanted, Wants, OrOnceWanted, AreSteps}
use Rattle.core_fact.proofs.CleanUps.{is_clean_up, clean-replied, wanted-clean, once_or_stays, refused-on_time, may-on_time, clean-on_time}
use Rattle.core_fact.proofs.Pasts.{state-shown, state-wanted, wanted-shown}

abbrev pub is_now : Event → Bool
is_now (event.Now time) = true
is_now e = false

pub the_call : (o : Option Call) (e : Event) → IsNext o e → (c : Call) × (o ≡ Some c) × IsOf c e
the_call None e is = absurd is
the_call (Some c) e is = (c, refl, is)

-- an event that isn't the time's is the next call's in a state in which the time isn't asked for
asks-now : (time : ℤ) (e : Event) → IsOf (ToAsk time) e → is_now e ≡ true
asks-now time _ asks = refl

pub of-now : (c : Call) (time : ℤ) → IsOf c (event.Now time) → c ≡ ToAsk time
of-now (ToAsk time) _ asks = refl
of-now c time is = elim is [ ]

pub untimed : (j : Job) (s : State) (e : Event) → IsNext (next j s) e → is_now e ≡ false → on_time s ≡ s
untimed j (Timing time) e is h = let y = asks-now time e is in absurd (cc)
untimed j s e is h = refl

pub timing : (j : Job) (s : State) (time : ℤ) → next j s ≡ Some (ToAsk time) → s ≡ Timing time
timing j (Timing x) time h = cc
timing j s time h = absurd (cc)

pub failing-is : (d : Disk) (c : Call) (e : Event) → IsFailing d c e → (can_fail c ≡ true) × ((part : Part) × (e ≡ failing d c part))
failing-is d (ToAsk time) e is = absurd is
failing-is d (ToRelease n) e is = absurd is
failing-is d (ToLoad n) e is = (refl, (Before, is))
failing-is d (ToStage n c) e is = (refl, is)
failing-is d (ToPublish from to) e is = (refl, is)
failing-is d (ToExtend n at c) e is = (refl, is)
failing-is d (ToErase n) e is = (refl, is)
failing-is d (ToLock n t) e is = (refl, is)
failing-is d (ToUnlock n t) e is = (refl, is)
failing-is d (ToSeize n) e is = (refl, is)

pub short-is : (c : Call) (e : Event) → IsShort c e → (n : List ℕ) × (c ≡ ToLoad n) × (e ≡ event.Load n seen.Memory)
short-is (ToLoad n) e is = (n, refl, is)
short-is c e is = absurd is

module _ (a : Actor) (t : Task) where
  -- What happened in the bracket leads to the machine's state, but for the question for the time; and once memory was wanted, that is a clean-up.
  pub record Follows (past : List Past) (s : State) : Type 0 where
    pub is : state_of a t past ≡ on_time s
    pub once : has_wanted past ≡ true → is_clean_up s ≡ true

  pub first_want : (past : List Past) (s : State) → Follows past s → is_clean_up s ≡ false → has_wanted past ≡ false
  first_want past s f unclean = elim (cases_Bool (has_wanted past)) [
    | inl h ↦ (let y = f.once h in absurd (cc))
    | inr h ↦ h
  ]

  pub follows_wanted : (past : List Past) (s : State) → Follows past s → may_want s ≡ true → Follows (past ++ Wanted ∷ []) (refused (job_of a t) s)
  follows_wanted past s f may = record {
    is = state-wanted (job_of a t) Seizing past ∙ ap (refused (job_of a t)) f.is ∙ refused-on_time (job_of a t) s ∙ sym (clean-on_time (refused (job_of a t) s) (wanted-clean (job_of a t) s may));
    once = λ h. wanted-clean (job_of a t) s may;
  }

  pub follows_shown : (past : List Past) (s : State) (e : Event) → Follows past s → on_time s ≡ s → Follows (past ++ Shown e ∷ []) (after_reply (job_of a t) s (reply e))
  follows_shown past s e f same = record {
    is = state-shown (job_of a t) Seizing past e ∙ ap (λ (x : State). on_time (after_reply (job_of a t) x (reply e))) (f.is ∙ same);
    once = λ h. clean-replied (job_of a t) s (reply e) (f.once (sym (wanted-shown past e) ∙ h));
  }

  -- a want of memory before a call of the machine is a step Refuse, or nothing
  pub ready : (past : List Past) (s now : State) → Follows past s → (now ≡ s) ⊎ (now ≡ refused (job_of a t) s) → (np : List Past) × ((np ≡ past) ⊎ Wants a t past np) × Follows np now
  ready past s now f or = elim (once_or_stays (job_of a t) s now or) [
    | inl e ↦ (past, inl refl, subst (Follows past) (sym e) f)
    | inr w ↦ (past ++ Wanted ∷ [], inr (ap may_want f.is ∙ may-on_time s ∙ w.1, first_want past s f w.2, refl), subst (Follows (past ++ Wanted ∷ [])) (sym w.0) (follows_wanted past s f w.1))
  ]

  pub or_once : (past np : List Past) (P : List Past → Type 0) → (np ≡ past) ⊎ Wants a t past np → P np → OrOnceWanted a t past P
  or_once past np P (inl e) p = inl (subst P e p)
  or_once past np P (inr w) p = inr (np, w, p)

  -- the events are steps up to this end
  abbrev pub Shows : List Past → Disk → List Event → Ending → Type 0
  Shows past d es end = (last : List Past) × AreSteps a t past d es last × (state_of a t last ≡ Ended end)
