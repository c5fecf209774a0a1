-- A recovery decides nothing.
use Rattle.std.proofs.Common.{◌≡◌, ◌⊎◌, ℕ, suc, Bool, true, false, List, [], ◌∷◌, if◌then◌else◌, refl, ap, sym, subst, inl, inr, ◌∙◌}
use Rattle.host_port.specs.declared.event.Event.{Event}
use Rattle.host_port.specs.declared.event.Event.TheVariants as event
use Rattle.host_port.specs.Disk.{Disk, after}
use Rattle.host_port.specs.Own.{own}
use Rattle.commit_machine.specs.Names.{new_name, staged_name}
use Rattle.commit_machine.specs.Edits.{recovery_for}
use Rattle.commit_machine.specs.Jobs.{Job}
use Rattle.commit_machine.specs.Machine.{State, Seizing, Looking, Undoing, Placing, Testing, Removing, Extending, Discarding, Unlocking, Erasing, Clearing, Releasing, Ended, GoOn, next, refused, after_reply}
use Rattle.commit_machine.specs.Goes.{IsNext, Goes, loads, publishes, extends, extend_fails, erases, unlocks, seizes, releases, reply}
use Rattle.commit_machine.specs.Due.{is_decision}
use Rattle.commit_machine.specs.Laws.{decisions}
use Rattle.commit_machine.proofs.records.Same.{same_false}
use Rattle.commit_machine.proofs.records.Names.{staged-new}
use Rattle.folder_recovery.proofs.GoesLemmas.{Mends, mends-refused, mends-reply}

module _ (actor : List ℕ) (token : ℕ) where
  abbrev job : Job
  job = recovery_for actor token

  -- a staged file that is put in place is no record
  placed-undecided : (t : ℕ) (n : List ℕ) (done failed : Bool) (d : Disk) → is_decision job (event.Publish (staged_name t n) n done failed) d ≡ false
  placed-undecided t n true failed d = rw (same_false (staged_name t n) (new_name actor) (staged-new t n actor)) refl
  placed-undecided t n false failed d = refl

  event-undecided : (s : State) (e : Event) (d : Disk) → Mends s → IsNext (next job s) e → is_decision job e d ≡ false
  event-undecided Seizing _ d h seizes = refl
  event-undecided Looking _ d h loads = refl
  event-undecided (Undoing r n ns ls GoOn) _ d h erases = refl
  event-undecided (Placing r x xs ls GoOn) _ d h (publishes {done = done} {failed = failed}) = placed-undecided r.token x.name done failed d
  event-undecided (Testing r x xs ls) _ d h loads = refl
  event-undecided (Removing r x xs ls GoOn) _ d h erases = refl
  event-undecided (Extending r x xs ls GoOn) _ d h extends = refl
  event-undecided (Extending r x xs ls GoOn) _ d h extend_fails = refl
  event-undecided (Discarding r x xs ls GoOn) _ d h erases = refl
  event-undecided (Unlocking r n ns GoOn) _ d h unlocks = refl
  event-undecided (Erasing r GoOn) _ d h erases = refl
  event-undecided (Clearing f) _ d h erases = refl
  event-undecided (Releasing e) _ d h releases = refl
  event-undecided (Ended a) e d h never = absurd never
  event-undecided s e d h is = absurd h

  mends-now : (s now : State) → (now ≡ s) ⊎ (now ≡ refused job s) → Mends s → Mends now
  mends-now s now (inl is) h = subst Mends (sym is) h
  mends-now s now (inr is) h = subst Mends (sym is) (mends-refused actor token s h)

  undecided-from : (es : List Event) (s last : State) (d : Disk) (n : ℕ) → Mends s → Goes job s (own es) last → decisions job d n es ≡ n
  undecided-from [] s last d n h goes = refl
  undecided-from (event.Foreign f ∷ es) s last d n h goes = undecided-from es s last (after d (event.Foreign f)) n h goes
  undecided-from (e ∷ es) s last d n h goes =
      let now = mends-now s goes.0 goes.1 h in
      ap (λ (b : Bool). decisions job (after d e) (if b then suc n else n) es) (event-undecided goes.0 e d now goes.2)
      ∙ undecided-from es (after_reply job goes.0 (reply e)) last (after d e) n (mends-reply actor token goes.0 (reply e) now) goes.3

  pub recovery-undecided : (es : List Event) (last : State) (d : Disk) → Goes job Seizing (own es) last → decisions job d 0 es ≡ 0
  recovery-undecided es last d goes = undecided-from es Seizing last d 0 tt goes
