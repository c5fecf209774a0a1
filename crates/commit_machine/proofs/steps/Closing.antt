-- Each own event keeps what is known: the unlocking, and the erasing of a record.
use Rattle.std.proofs.Common.{◌≡◌, ◌≢◌, ◌⊎◌, ℕ, Bool, true, false, List, [], ◌∷◌, Option, Some, None, refl, ap, sym, subst, inl, inr, ◌∙◌, arith}
use Rattle.std.proofs.lemmas.Bool.{eqb-true}
use Rattle.std.proofs.lemmas.Grind.{common_steps}
use Rattle.commit_record.specs.declared.record.Record.{Record}
use Rattle.host_port.specs.declared.event.Event.{Event}
use Rattle.host_port.specs.declared.event.Event.TheVariants as event
use Rattle.host_port.specs.Disk.{Disk, with_at, after}
use Rattle.host_port.specs.Ends.{is_owner}
use Rattle.host_port.specs.Ran.{Agrees}
use Rattle.commit_machine.specs.Names.{record_name, staged_name}
use Rattle.commit_machine.specs.Records.{record_in}
use Rattle.commit_machine.specs.Settled.{Files, Locks, Mem}
use Rattle.commit_machine.specs.Jobs.{Ending, Done, Recovered, Refused, Failed, NoMemory, Job, IsJob}
use Rattle.commit_machine.specs.Machine.{Then, GoOn, Answer, Unlocking, Erasing, ToErase, ToUnlock, unlocking}
use Rattle.commit_machine.specs.Goes.{IsOf, erases, unlocks}
use Rattle.commit_machine.specs.Lawful.{IsSound, IsFresh}
use Rattle.commit_machine.specs.Due.{settled_files, settled_locks}
use Rattle.commit_machine.proofs.standing.Known.{Closing, Ours, Ends, Knows}
use Rattle.commit_machine.proofs.records.Same.{put_here, put_there}
use Rattle.commit_machine.proofs.records.Names.{staged-record}
use Rattle.commit_machine.proofs.standing.Settled.{keep_erase}
use Rattle.commit_machine.proofs.standing.Sound.{sound_erase, sound_unlock, lock_erase, lock_own}
use Rattle.commit_machine.proofs.standing.KnownNext.{knows_unlocking}
use Rattle.commit_machine.proofs.steps.Shown
use Rattle.commit_machine.proofs.steps.Shown.{Shows, Kept, other_more, none_left}

owner_is : (t : ℕ) (l : Option ℕ) → is_owner t l ≡ true → l ≡ Some t
owner_is t None h = absurd (cc)
owner_is t (Some u) h = let e : u ≡ t = eqb-true u t h in ap (λ (x : ℕ). Some x) e

owner_not : (t : ℕ) (l : Option ℕ) → is_owner t l ≡ false → l ≢ Some t
owner_not t l h e = let w : is_owner t l ≡ true = rw e (grind (arith, common_steps)) in absurd (cc)

module _ (j : Job) (job : IsJob j) (d : Disk) (files : Files) (owners : Locks) (settles : (n : List ℕ) → settled_files j.actor d n ≡ files n)
    (locked : (n : List ℕ) → settled_locks j.actor d n ≡ owners n) (sound : IsSound j.actor d) where
  module _ (r : Record) (n : List ℕ) (ns : List (List ℕ)) (th : Then) (k : Knows j (Unlocking r n ns th) d) where
    unlock_shows : (failed : Bool) → is_owner r.token (d.locks n) ≡ true → Shows j (event.Unlock n r.token true failed) d files owners
    unlock_shows failed owned = record {
      settles = settles;
      locked = λ q. lock_own j.actor d.files d.locks r n q None k.0.stands (k.1.each n (inl refl)) (inr (owner_is r.token (d.locks n) owned)) (inl refl) ∙ locked q;
      sound = sound_unlock j.actor d.files d.locks r n k.0.stands (none_left n _ (k.0.gone n (k.1.each n (inl refl)))) sound;
    }

    unlock_free : (m : List ℕ) → Mem m (n ∷ ns) ⊎ (d.locks m ≢ Some r.token) → Mem m ns ⊎ (with_at d.locks n None m ≢ Some r.token)
    unlock_free m (inl (inl e)) = inr (λ p. let w : ◌≡◌ {A = Option ℕ} None (Some r.token) = sym (ap (with_at d.locks n None) e ∙ put_here d.locks n None) ∙ p in absurd (cc))
    unlock_free m (inl (inr h)) = inl h
    unlock_free m (inr h) = inr (other_more d.locks n m r.token h)

    unlock_knows : Knows j (unlocking r ns th) (after d (event.Unlock n r.token true false))
    unlock_knows = knows_unlocking j (after d (event.Unlock n r.token true false)) r ns th
        (record { right = k.0.right; stands = k.0.stands; gone = k.0.gone; free = λ m h. unlock_free m (k.0.free m h) })
        (record { each = λ m h. k.1.each m (inr h) })
        (Shown.then_moves j job d files owners settles locked sound (after d (event.Unlock n r.token true false)) r th (λ m h. h) (λ m h. other_more d.locks n m j.token h) refl k.2)

    pass_free : (m : List ℕ) → is_owner r.token (d.locks n) ≡ false → Mem m (n ∷ ns) ⊎ (d.locks m ≢ Some r.token) → Mem m ns ⊎ (d.locks m ≢ Some r.token)
    pass_free m not (inl (inl e)) = inr (λ p. owner_not r.token (d.locks n) not (ap d.locks (sym e) ∙ p))
    pass_free m not (inl (inr h)) = inl h
    pass_free m not (inr h) = inr h

    pass_knows : is_owner r.token (d.locks n) ≡ false → Knows j (unlocking r ns th) d
    pass_knows not = knows_unlocking j d r ns th
        (record { right = k.0.right; stands = k.0.stands; gone = k.0.gone; free = λ m h. pass_free m not (k.0.free m h) })
        (record { each = λ m h. k.1.each m (inr h) }) k.2

  pub step_unlocking : (r : Record) (n : List ℕ) (ns : List (List ℕ)) (th : Then) {e : Event} → IsOf (ToUnlock n r.token) e → Agrees d e
      → Knows j (Unlocking r n ns th) d → Kept j (Unlocking r n ns th) e d files owners
  step_unlocking r n ns th (unlocks {done = true} {failed = true}) agrees k = record { shows = unlock_shows r n ns th k true (agrees refl); knows = tt }
  step_unlocking r n ns th (unlocks {done = false} {failed = true}) agrees k = record { shows = record { settles = settles; locked = locked; sound = sound }; knows = tt }
  step_unlocking r n ns th (unlocks {done = false} {failed = false}) agrees k =
      record { shows = record { settles = settles; locked = locked; sound = sound }; knows = pass_knows r n ns th k (sym agrees) }
  step_unlocking r n ns th (unlocks {done = true} {failed = false}) agrees k = record { shows = unlock_shows r n ns th k false (sym agrees); knows = unlock_knows r n ns th k }

  module _ (r : Record) (th : Then) (k : Knows j (Erasing r th) d) where
    erase_shows : (failed : Bool) → Shows j (event.Erase (record_name j.actor) true failed) d files owners
    erase_shows failed = record {
      settles = λ q. keep_erase j.actor d.files r q k.0.stands (λ m h. none_left m _ (k.0.gone m h)) ∙ settles q;
      locked = λ q. lock_erase j.actor d.files d.locks r q k.0.stands (λ m h. none_left m _ (k.0.free m h)) ∙ locked q;
      sound = sound_erase j.actor d.files d.locks;
    }

  erased : Disk
  erased = after d (event.Erase (record_name j.actor) true false)

  erased_none : with_at d.files (record_name j.actor) None (record_name j.actor) ≡ None
  erased_none = put_here d.files (record_name j.actor) None

  erased_other : (r : Record) → record_in (with_at d.files (record_name j.actor) None (record_name j.actor)) ≡ Some r → ⊥
  erased_other r e = let w : ◌≡◌ {A = Option Record} None (Some r) = sym (ap record_in erased_none) ∙ e in absurd (cc)

  erased_staged : (u : ℕ) (m : List ℕ) → with_at d.files (record_name j.actor) None (staged_name u m) ≡ d.files (staged_name u m)
  erased_staged u m = put_there d.files (record_name j.actor) (staged_name u m) None (staged-record u m j.actor)

  erased_fresh : IsFresh j.actor j.token d → IsFresh j.actor j.token (after d (event.Erase (record_name j.actor) true false))
  erased_fresh k = record { staged = λ m. erased_staged j.token m ∙ k.staged m; locks = k.locks; record_other = λ r e. absurd (erased_other r e) }

  -- nothing carries the own token once the own record is done with
  cleared : (r : Record) (a : Ending) → Closing j.actor r [] [] d → Ours j r a d → IsFresh j.actor j.token (after d (event.Erase (record_name j.actor) true false))
  cleared r a k o = record {
    staged = λ m. erased_staged j.token m ∙ elim (o.rest.staged m) [
      | inl h ↦ subst (λ (u : ℕ). d.files (staged_name u m) ≡ None) o.token (none_left m _ (k.gone m (subst (Mem m) (sym o.names) h)))
      | inr b ↦ b
    ];
    locks = λ m. elim (o.rest.locks m) [
      | inl h ↦ subst (λ (u : ℕ). d.locks m ≢ Some u) o.token (none_left m _ (k.free m (subst (Mem m) (sym o.names) h)))
      | inr b ↦ b
    ];
    record_other = λ q e. absurd (erased_other q e);
  }

  ends : (r : Record) (a : Ending) → Knows j (Erasing r (Answer a)) d → Ends a j (after d (event.Erase (record_name j.actor) true false))
  ends r Done k = (record { fresh = cleared r Done k.0 k.1; none = erased_none }, k.0.right)
  ends r (Recovered found) k = absurd k.1.own_end
  ends r (Refused why) k = cleared r (Refused why) k.0 k.1
  ends r (Failed passed) k = tt
  ends r NoMemory k = cleared r NoMemory k.0 k.1

  pub step_erasing : (r : Record) (th : Then) {e : Event} → IsOf (ToErase (record_name j.actor)) e → Agrees d e → Knows j (Erasing r th) d → Kept j (Erasing r th) e d files owners
  step_erasing r th (erases {done = true} {failed = true}) agrees k = record { shows = erase_shows r th k true; knows = tt }
  step_erasing r th (erases {done = false} {failed = true}) agrees k = record { shows = record { settles = settles; locked = locked; sound = sound }; knows = tt }
  step_erasing r th (erases {done = false} {failed = false}) agrees k = absurd (cc)
  step_erasing r GoOn (erases {done = true} {failed = false}) agrees k = record {
    shows = erase_shows r GoOn k false;
    knows = record { clean = record { right = k.0.right; fresh = erased_fresh k.1 }; none = erased_none; new = λ c n. absurd (cc) };
  }
  step_erasing r (Answer a) (erases {done = true} {failed = false}) agrees k = record { shows = erase_shows r (Answer a) k false; knows = ends r a k }
