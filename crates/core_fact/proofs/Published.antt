-- What an own call puts in place of what, and when the right is taken.
use Rattle.std.proofs.Common.{◌≡◌, ◌⊎◌, ℕ, Bool, true, false, List, [], ◌∷◌, Option, Some, None, refl, ap, sym, inl, inr, ◌∙◌}
use Rattle.commit_record.specs.declared.record.Record.{Record}
use Rattle.host_port.specs.declared.event.Event.{Event}
use Rattle.host_port.specs.declared.event.Event.TheVariants as event
use Rattle.host_port.specs.declared.event.Holder.{Holder}
use Rattle.host_port.specs.declared.event.Holder.TheVariants.{Own, Other}
use Rattle.host_port.specs.Disk.{Disk, with_at, without_own, after}
use Rattle.host_port.specs.Ran.{Agrees}
use Rattle.commit_machine.specs.Names.{record_name, new_name, right_name, staged_name}
use Rattle.commit_machine.specs.Records.{names_of}
use Rattle.commit_machine.specs.Settled.{Mem}
use Rattle.commit_machine.specs.Laws.{is_foreign}
use Rattle.commit_machine.specs.Jobs.{Job}
use Rattle.commit_machine.specs.Machine.{State, Seizing, Timing, Looking, Undoing, Placing, Testing, Removing, Extending, Discarding, Unlocking, Erasing, Clearing, Preparing, Publishing, Locking, Loading, Staging, Deciding, Committing, Checking, Releasing, Ended, next}
use Rattle.commit_machine.specs.Goes.{IsNext, asks, loads, stages, stage_fails, publishes, extends, extend_fails, erases, locks, unlocks, seizes, releases}
use Rattle.commit_machine.specs.Lawful.{IsSound}
use Rattle.commit_machine.proofs.records.Same.{same_or_not, put_here, put_there}
use Rattle.commit_machine.proofs.standing.Known.{Knows}
use Rattle.core_steps.specs.declared.actor.Past.TheVariants.{Shown}
use Rattle.core_steps.proofs.Touching.{Held, Touches}
use Rattle.core_steps.proofs.Fact.{right_sights}

-- the staging of the record as the record, or a staged file of the record that stands as its file, which is locked
abbrev pub IsPublished : List ℕ → Disk → Event → Type 0
IsPublished a d (event.Publish from to true failed) =
    ((from ≡ new_name a) × (to ≡ record_name a)) ⊎ ((r : Record) × Held a r d × Mem to (names_of r) × (from ≡ staged_name r.token to) × (d.locks to ≡ Some r.token))
IsPublished a d e = Unit {0}

module _ (j : Job) (d : Disk) where
  pub own_published : IsSound j.actor d → (s : State) (e : Event) → IsNext (next j s) e → Agrees d e → Knows j s d → IsPublished j.actor d e
  own_published sound (Placing r x xs ls th) _ (publishes {done = true} {failed = true}) agrees k =
      inr (
        r,
        record { right = k.0.closing.right; stands = k.0.closing.stands },
        k.0.within.each x.name (inl refl),
        refl,
        sound.locked r x.name k.0.closing.stands k.0.go (k.0.within.each x.name (inl refl)) (agrees refl),
      )
  own_published sound (Placing r x xs ls th) _ (publishes {done = true} {failed = false}) agrees k =
      inr (
        r,
        record { right = k.0.closing.right; stands = k.0.closing.stands },
        k.0.within.each x.name (inl refl),
        refl,
        sound.locked r x.name k.0.closing.stands k.0.go (k.0.within.each x.name (inl refl)) (sym agrees),
      )
  own_published sound (Placing r x xs ls th) _ (publishes {done = false} {failed = f}) agrees k = tt
  own_published sound Publishing _ (publishes {done = true} {failed = f}) agrees k = inl (refl, refl)
  own_published sound Publishing _ (publishes {done = false} {failed = f}) agrees k = tt
  own_published sound (Committing made) _ (publishes {done = true} {failed = f}) agrees k = inl (refl, refl)
  own_published sound (Committing made) _ (publishes {done = false} {failed = f}) agrees k = tt
  own_published sound Seizing _ seizes agrees k = tt
  own_published sound (Timing time) _ asks agrees k = tt
  own_published sound Looking _ loads agrees k = tt
  own_published sound (Undoing r n ns ls th) _ erases agrees k = tt
  own_published sound (Testing r x xs ls) _ loads agrees k = tt
  own_published sound (Removing r x xs ls th) _ erases agrees k = tt
  own_published sound (Extending r x xs ls th) _ extends agrees k = tt
  own_published sound (Extending r x xs ls th) _ extend_fails agrees k = tt
  own_published sound (Discarding r x xs ls th) _ erases agrees k = tt
  own_published sound (Unlocking r n ns th) _ unlocks agrees k = tt
  own_published sound (Erasing r th) _ erases agrees k = tt
  own_published sound (Clearing found) _ erases agrees k = tt
  own_published sound Preparing _ stages agrees k = tt
  own_published sound Preparing _ stage_fails agrees k = tt
  own_published sound (Locking ls x left) _ locks agrees k = tt
  own_published sound (Loading made x left) _ loads agrees k = tt
  own_published sound (Staging ns made x left) _ stages agrees k = tt
  own_published sound (Staging ns made x left) _ stage_fails agrees k = tt
  own_published sound (Deciding made) _ stages agrees k = tt
  own_published sound (Deciding made) _ stage_fails agrees k = tt
  own_published sound Checking _ loads agrees k = tt
  own_published sound (Releasing a) _ releases agrees k = tt
  own_published sound (Ended a) _ is agrees k = absurd is

abbrev pub is_taking : Event → Bool
is_taking (event.Seize n got failed) = true
is_taking e = false

-- the right is taken first
pub taking_first : (j : Job) (s : State) (e : Event) → IsNext (next j s) e → is_taking e ≡ true → s ≡ Seizing
taking_first j Seizing e is y = refl
taking_first j (Ended a) e is y = absurd is
taking_first j (Timing time) _ asks y = absurd (cc)
taking_first j Looking _ loads y = absurd (cc)
taking_first j (Undoing r n ns ls th) _ erases y = absurd (cc)
taking_first j (Placing r x xs ls th) _ publishes y = absurd (cc)
taking_first j (Testing r x xs ls) _ loads y = absurd (cc)
taking_first j (Removing r x xs ls th) _ erases y = absurd (cc)
taking_first j (Extending r x xs ls th) _ extends y = absurd (cc)
taking_first j (Extending r x xs ls th) _ extend_fails y = absurd (cc)
taking_first j (Discarding r x xs ls th) _ erases y = absurd (cc)
taking_first j (Unlocking r n ns th) _ unlocks y = absurd (cc)
taking_first j (Erasing r th) _ erases y = absurd (cc)
taking_first j (Clearing found) _ erases y = absurd (cc)
taking_first j Preparing _ stages y = absurd (cc)
taking_first j Preparing _ stage_fails y = absurd (cc)
taking_first j Publishing _ publishes y = absurd (cc)
taking_first j (Locking ls x left) _ locks y = absurd (cc)
taking_first j (Loading made x left) _ loads y = absurd (cc)
taking_first j (Staging ns made x left) _ stages y = absurd (cc)
taking_first j (Staging ns made x left) _ stage_fails y = absurd (cc)
taking_first j (Deciding made) _ stages y = absurd (cc)
taking_first j (Deciding made) _ stage_fails y = absurd (cc)
taking_first j (Committing made) _ publishes y = absurd (cc)
taking_first j Checking _ loads y = absurd (cc)
taking_first j (Releasing a) _ releases y = absurd (cc)

pub none_kept : (o : Option Holder) → without_own o ≡ Some Own → ⊥
none_kept None h = absurd (cc)
none_kept (Some Own) h = absurd (cc)
none_kept (Some Other) h = absurd (cc)

-- a right that is had after an event that takes none was had before
pub own_before : (d : Disk) (e : Event) (q : List ℕ) → is_foreign e ≡ false → is_taking e ≡ false → (after d e).rights q ≡ Some Own → d.rights q ≡ Some Own
own_before d (event.Seize n got failed) q own free h = absurd (cc)
own_before d (event.Release n) q own free h = elim (same_or_not q n) [
  | inl p ↦ absurd (none_kept (d.rights n) (sym (ap (with_at d.rights n (without_own (d.rights n))) p.0 ∙ put_here d.rights n (without_own (d.rights n))) ∙ h))
  | inr p ↦ sym (put_there d.rights n q (without_own (d.rights n)) p.0) ∙ h
]
own_before d (event.Publish from to true failed) q own free h = h
own_before d (event.Publish from to false failed) q own free h = h
own_before d (event.Erase n true failed) q own free h = h
own_before d (event.Erase n false failed) q own free h = h
own_before d (event.Lock n t true failed) q own free h = h
own_before d (event.Lock n t false failed) q own free h = h
own_before d (event.Unlock n t true failed) q own free h = h
own_before d (event.Unlock n t false failed) q own free h = h
own_before d (event.Foreign f) q own free h = absurd (cc)
own_before d e q own free h = h

-- a right that the bracket's events say it has is had
pub right_seen_after : (a : List ℕ) (d : Disk) (has : Bool) (e : Event) → Touches a d e → is_foreign e ≡ false → (has ≡ true → d.rights (right_name a) ≡ Some Own)
    → right_sights has (Shown e ∷ []) ≡ true → (after d e).rights (right_name a) ≡ Some Own
right_seen_after a d has (event.Seize n true failed) touch own was h = ap (with_at d.rights n (Some Own)) (sym touch) ∙ put_here d.rights n (Some Own)
right_seen_after a d has (event.Seize n false failed) touch own was h = absurd (let w : false ≡ true = h in cc)
right_seen_after a d has (event.Release n) touch own was h = absurd (let w : false ≡ true = h in cc)
right_seen_after a d has (event.Publish from to true failed) touch own was h = was h
right_seen_after a d has (event.Publish from to false failed) touch own was h = was h
right_seen_after a d has (event.Erase n true failed) touch own was h = was h
right_seen_after a d has (event.Erase n false failed) touch own was h = was h
right_seen_after a d has (event.Lock n t true failed) touch own was h = was h
right_seen_after a d has (event.Lock n t false failed) touch own was h = was h
right_seen_after a d has (event.Unlock n t true failed) touch own was h = was h
right_seen_after a d has (event.Unlock n t false failed) touch own was h = was h
right_seen_after a d has (event.Foreign f) touch own was h = absurd (cc)
right_seen_after a d has e touch own was h = was h
