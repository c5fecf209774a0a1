-- The calls of a commit or of a recovery, one by one: how each ends, and what want of memory makes of the machine.
use Rattle.std.proofs.Common.{◌≡◌, ◌⊎◌, ℕ, ℤ, Bool, true, false, List, [], ◌∷◌, ◌++◌, Option, Some, None, refl, ap, sym, inl, inr, ◌∙◌}
use Rattle.host_port.specs.declared.event.Event.{Event}
use Rattle.host_port.specs.declared.event.Event.TheVariants as event
use Rattle.host_port.specs.declared.event.Seen.TheVariants as seen
use Rattle.host_port.specs.declared.event.Part.{Part}
use Rattle.host_port.specs.declared.event.Part.TheVariants.{Before}
use Rattle.host_port.specs.Disk.{Disk}
use Rattle.commit_machine.specs.Jobs.{NoMemory, Job, all_of, prepare_of}
use Rattle.commit_machine.specs.Machine.{State, Timing, Looking, Testing, Loading, Checking, Ended, Call, ToAsk, ToLoad, ToStage, ToPublish, ToExtend, ToErase, ToLock, ToUnlock, ToSeize, ToRelease, next, after_reply, refused, wanted}
use Rattle.commit_machine.specs.Goes.{IsOf, IsNext, asks, reply}
use Rattle.actor_ground.specs.CallEnds.{IsFailing, IsShort}
use Rattle.core_steps.specs.declared.actor.Past.{Past}
use Rattle.core_steps.specs.declared.actor.Past.TheVariants.{Shown, Wanted}
use Rattle.core_steps.specs.Tasks.{on_time, may_want}
use Rattle.core_steps.specs.Turns.{failing, can_fail}
use Rattle.core_steps.specs.Shown.{has_wanted}
use Rattle.core_steps.proofs.Wanting.{is_asking, refused_not}
use Rattle.core_steps.proofs.Closing.{IsClosing, closed_undoing}

pub wanted_shown : (past : List Past) (e : Event) → has_wanted (past ++ Shown e ∷ []) ≡ has_wanted past
wanted_shown [] e = refl
wanted_shown (Shown x ∷ past) e = wanted_shown past e
wanted_shown (Wanted ∷ past) e = refl

-- a call that failed is the step Fail, for it isn't the release
pub failed_is : (d : Disk) (c : Call) (e : Event) → IsFailing d c e → (can_fail c ≡ true) × ((part : Part) × (e ≡ failing d c part))
failed_is d (ToAsk time) e f = absurd f
failed_is d (ToRelease n) e f = absurd f
failed_is d (ToLoad n) e f = (refl, (Before, f))
failed_is d (ToStage n c) e f = (refl, (f.0, f.1))
failed_is d (ToPublish from to) e f = (refl, (f.0, f.1))
failed_is d (ToExtend n at c) e f = (refl, (f.0, f.1))
failed_is d (ToErase n) e f = (refl, (f.0, f.1))
failed_is d (ToLock n t) e f = (refl, (f.0, f.1))
failed_is d (ToUnlock n t) e f = (refl, (f.0, f.1))
failed_is d (ToSeize n) e f = (refl, (f.0, f.1))

pub short_is : (c : Call) (e : Event) → IsShort c e → (n : List ℕ) × (c ≡ ToLoad n) × (e ≡ event.Load n seen.Memory)
short_is (ToLoad n) e s = (n, refl, s)
short_is c e s = absurd s

pub next_call : (o : Option Call) (e : Event) → IsNext o e → (c : Call) × (o ≡ Some c) × IsOf c e
next_call None e is = absurd is
next_call (Some c) e is = (c, refl, is)

-- what the machine is after a load for which memory ran out: as after a want, or as after one that failed
pub short_load : (j : Job) (s : State) (n : List ℕ) → next j s ≡ Some (ToLoad n)
    → ((may_want s ≡ true) × (wanted j s ≡ refused j s) × IsClosing (refused j s)) ⊎ ((may_want s ≡ false) × (wanted j s ≡ after_reply j s (reply (event.Load n seen.Failed))))
short_load j Looking n e = inl (refl, refl, tt)
short_load j (Testing r x xs ls) n e = inl (refl, refl, tt)
short_load j (Loading made x left) n e = inl (refl, refl, closed_undoing (prepare_of j) [] (all_of j) NoMemory)
short_load j Checking n e = inr (refl, refl)
short_load j (Ended a) n e = absurd (cc)
short_load j s n e = absurd (cc)

pub on_time_same : (s : State) → is_asking s ≡ false → on_time s ≡ s
on_time_same (Timing time) h = absurd (let w : true ≡ false = h in cc)
on_time_same s h = refl

pub refused_on_time : (j : Job) (s : State) → refused j (on_time s) ≡ on_time (refused j s)
refused_on_time j (Timing time) = refl
refused_on_time j s = sym (on_time_same (refused j s) (refused_not j s))

abbrev pub is_now : Event → Bool
is_now (event.Now time) = true
is_now e = false

pub not_asking : (j : Job) (s : State) (e : Event) → IsNext (next j s) e → is_now e ≡ false → is_asking s ≡ false
not_asking j (Timing time) _ asks h = absurd (let w : true ≡ false = h in cc)
not_asking j s e is h = refl

pub of_now : (c : Call) (time : ℤ) → IsOf c (event.Now time) → (now : ℤ) × (c ≡ ToAsk now)
of_now (ToAsk now) time of = (now, refl)
of_now (ToLoad n) time of = elim of [ ]
of_now (ToStage n c) time of = elim of [ ]
of_now (ToPublish from to) time of = elim of [ ]
of_now (ToExtend n at c) time of = elim of [ ]
of_now (ToErase n) time of = elim of [ ]
of_now (ToLock n t) time of = elim of [ ]
of_now (ToUnlock n t) time of = elim of [ ]
of_now (ToSeize n) time of = elim of [ ]
of_now (ToRelease n) time of = elim of [ ]

pub call_asks : (j : Job) (s : State) (now : ℤ) → next j s ≡ Some (ToAsk now) → (time : ℤ) × (s ≡ Timing time)
call_asks j (Timing time) now e = (time, refl)
call_asks j (Ended a) now e = absurd (cc)
call_asks j s now e = absurd (cc)

pub asking_now : (j : Job) (s : State) (time : ℤ) → IsNext (next j s) (event.Now time) → (now : ℤ) × (s ≡ Timing now)
asking_now j s time is = let c = next_call (next j s) (event.Now time) is in let w = of_now c.0 time c.2 in call_asks j s w.0 (c.1 ∙ ap Some w.1)
