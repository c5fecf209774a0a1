-- Whose a right is after an event, and what an actor does then.
use Rattle.std.proofs.Common.{◌≡◌, ◌≢◌, ℕ, Bool, true, false, List, [], ◌∷◌, Option, Some, None, refl, ap, sym, inl, inr, ◌∙◌}
use Rattle.host_port.specs.declared.event.Event.{Event}
use Rattle.host_port.specs.declared.event.Event.TheVariants as event
use Rattle.host_port.specs.declared.event.Holder.{Holder}
use Rattle.host_port.specs.declared.event.Holder.TheVariants.{Own, Other}
use Rattle.host_port.specs.Disk.{Disk, with_at, without_own, after}
use Rattle.commit_machine.specs.Names.{right_name}
use Rattle.commit_machine.specs.Jobs.{Done, Recovered, Refused, Failed, NoMemory, Job}
use Rattle.commit_machine.specs.Machine.{State, Seizing, Releasing, Ended, next, after_reply}
use Rattle.commit_machine.specs.Goes.{IsNext, seizes, releases, reply}
use Rattle.commit_machine.specs.Laws.{is_foreign}
use Rattle.commit_machine.proofs.records.Same.{same_or_not, put_here, put_there}
use Rattle.core_steps.specs.declared.actor.Actor.{Actor}
use Rattle.core_steps.specs.declared.actor.Task.{Task}
use Rattle.core_steps.specs.declared.actor.Past.{Past}
use Rattle.core_steps.specs.declared.actor.Past.TheVariants.{Shown}
use Rattle.core_steps.specs.declared.actor.Doing.{Doing}
use Rattle.core_steps.specs.declared.actor.Member.{Member}
use Rattle.core_steps.specs.Turns.{doing_at}
use Rattle.core_steps.specs.Cores.{CoreDisk, member_at, holder_then}
use Rattle.core_steps.proofs.Touching.{Touches}
use Rattle.core_steps.proofs.Fact.{is_over, right_sights}
use Rattle.core_fact.proofs.Called.{own}
use Rattle.core_fact.proofs.Mid.{IsMid}
use Rattle.core_fact.proofs.Late.{mid_reply, mid_seized}
use Rattle.core_fact.proofs.Published.{is_taking, none_kept}
use Rattle.core_fact.proofs.Remembered.{nothing_seen}
use Rattle.core_fact.proofs.Memory.{IsPastKept, IsOwnKept, IsOwnTaker}

pub not_over : (s : State) → IsMid s → is_over s ≡ false
not_over (Ended e) m = absurd m
not_over s m = refl

-- a bracket that has its right isn't through
pub mid_after : (j : Job) (s : State) (has : Bool) (e : Event) → IsNext (next j s) e → right_sights has (Shown e ∷ []) ≡ true → IsMid (after_reply j s (reply e))
mid_after j Seizing has _ (seizes {got = true} {failed = true}) h = tt
mid_after j Seizing has _ (seizes {got = true} {failed = false}) h = mid_seized j _ (inl refl)
mid_after j Seizing has _ (seizes {got = false} {failed = f}) h = absurd (let w : false ≡ true = h in cc)
mid_after j (Releasing a) has _ releases h = absurd (let w : false ≡ true = h in cc)
mid_after j (Ended a) has e is h = absurd is
mid_after j s has e is h = mid_reply j s (reply e) tt (λ a p. absurd (cc))

pub own_at : (now : CoreDisk) (k : ℕ) (a : Actor) (t : Task) (past : List Past) (s : State) → IsPastKept now k a past → IsOwnKept now k a (doing_at t past s)
own_at now k a t past (Ended (Failed p)) kept = tt
own_at now k a t past (Ended Done) kept = tt
own_at now k a t past (Ended (Recovered f)) kept = tt
own_at now k a t past (Ended (Refused why)) kept = tt
own_at now k a t past (Ended NoMemory) kept = tt
own_at now k a t past s kept = kept

pub taker_at : (a : Actor) (t : Task) (past : List Past) (s : State) (q : List ℕ) → is_over s ≡ false → (q ≡ right_name a.name) × (right_sights false past ≡ true) → IsOwnTaker a (doing_at t past s) q
taker_at a t past (Ended e) q over w = absurd (let v : true ≡ false = over in cc)
taker_at a t past s q over w = w

-- a right that is had after an own event is the actor's, and its bracket took it
pub taken_then : (a : List ℕ) (d : Disk) (has : Bool) (e : Event) (q : List ℕ) → Touches a d e → is_foreign e ≡ false → (is_taking e ≡ true → has ≡ false)
    → (d.rights q ≡ Some Own → (q ≡ right_name a) × (has ≡ true)) → (after d e).rights q ≡ Some Own → (q ≡ right_name a) × (right_sights has (Shown e ∷ []) ≡ true)
taken_then a d has (event.Seize n true failed) q touched own first was h = elim (same_or_not q n) [
  | inl p ↦ (p.0 ∙ touched, refl)
  | inr p ↦ absurd (p.0 ((was (sym (put_there d.rights n q (Some Own) p.0) ∙ h)).0 ∙ sym touched))
]
taken_then a d has (event.Seize n false failed) q touched own first was h = absurd (let w : true ≡ false = sym (was h).1 ∙ first refl in cc)
taken_then a d has (event.Release n) q touched own first was h = elim (same_or_not q n) [
  | inl p ↦ absurd (none_kept (d.rights n) (sym (ap (with_at d.rights n (without_own (d.rights n))) p.0 ∙ put_here d.rights n (without_own (d.rights n))) ∙ h))
  | inr p ↦ absurd (p.0 ((was (sym (put_there d.rights n q (without_own (d.rights n)) p.0) ∙ h)).0 ∙ sym touched))
]
taken_then a d has (event.Publish from to true failed) q touched own first was h = was h
taken_then a d has (event.Publish from to false failed) q touched own first was h = was h
taken_then a d has (event.Erase n true failed) q touched own first was h = was h
taken_then a d has (event.Erase n false failed) q touched own first was h = was h
taken_then a d has (event.Lock n t true failed) q touched own first was h = was h
taken_then a d has (event.Lock n t false failed) q touched own first was h = was h
taken_then a d has (event.Unlock n t true failed) q touched own first was h = was h
taken_then a d has (event.Unlock n t false failed) q touched own first was h = was h
taken_then a d has (event.Foreign f) q touched own first was h = absurd (cc)
taken_then a d has e q touched own first was h = was h

pub back_from : (k i : ℕ) (old : Option ℕ) (r : Option Holder) → i ≢ k → holder_then k old r ≡ Some i → old ≡ Some i
back_from k i old None ne h = nothing_seen i h
back_from k i old (Some Own) ne h = absurd (ne (let w : k ≡ i = (cc) in sym w))
back_from k i old (Some Other) ne h = h

-- what a member is doing is one thing
pub one_doing : (ms : List Member) (k : ℕ) (a b : Actor) (x y : Doing) → member_at ms k ≡ Some (record { actor = a; doing = x }) → member_at ms k ≡ Some (record { actor = b; doing = y })
    → (a ≡ b) × (x ≡ y)
one_doing ms k a b x y p q = let w : Some (record { actor = a; doing = x }) ≡ Some (record { actor = b; doing = y }) = sym p ∙ q in (ap actor_in w, ap doing_in w)
  where
    actor_in : Option Member → Actor
    actor_in None = a
    actor_in (Some m) = m.actor

    doing_in : Option Member → Doing
    doing_in None = x
    doing_in (Some m) = m.doing
