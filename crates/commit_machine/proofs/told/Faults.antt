-- After a failed call nothing is changed.
use Rattle.std.proofs.Common.{◌≡◌, ◌⊎◌, Bool, true, false, ◌||◌, List, [], ◌∷◌, refl, ap, sym, subst, inl, inr, ◌∙◌}
use Rattle.std.specs.List.{list_any}
use Rattle.host_port.specs.declared.event.Event.{Event}
use Rattle.host_port.specs.declared.event.Event.TheVariants as event
use Rattle.host_port.specs.declared.event.Seen.{Seen}
use Rattle.host_port.specs.declared.event.Seen.TheVariants as seen
use Rattle.host_port.specs.Own.{own}
use Rattle.commit_machine.specs.Names.{record_name, right_name}
use Rattle.commit_machine.specs.Jobs.{Job}
use Rattle.commit_machine.specs.Machine.{State, Committing, Checking, Releasing, Ended, ToLoad, ToRelease, Reply, Went, Saw, Long, Short, Fault, next, after_reply, faulted, refused}
use Rattle.commit_machine.specs.Goes.{IsOf, IsNext, Goes, loads, releases, reply, went, seen_reply}
use Rattle.commit_machine.specs.Restraints.{is_failed, is_failed_load, may_act, NothingAfterAFault}
use Rattle.commit_machine.proofs.runs.Ends.{run_front}

-- the states after a failed call
abbrev IsOver : State → Type 0
IsOver Checking = Unit {0}
IsOver (Releasing e) = Unit {0}
IsOver (Ended e) = Unit {0}
IsOver s = ⊥

over_faulted : (s : State) → IsOver (faulted s)
over_faulted (Committing made) = tt
over_faulted s = tt

failed_load : (s : Seen) → is_failed_load s ≡ true → seen_reply s ≡ Fault
failed_load (seen.Bytes bytes held) h = absurd (cc)
failed_load (seen.TooLarge n) h = absurd (cc)
failed_load seen.Failed h = refl
failed_load seen.Memory h = absurd (cc)

failed_reply : (e : Event) → is_failed e ≡ true → reply e ≡ Fault
failed_reply (event.Load n s) h = failed_load s h
failed_reply (event.Stage n c failed) h = ap (went true) h
failed_reply (event.Publish from to done failed) h = ap (went done) h
failed_reply (event.Extend n at tail failed) h = ap (went true) h
failed_reply (event.Erase n done failed) h = ap (went done) h
failed_reply (event.Lock n t got failed) h = ap (went got) h
failed_reply (event.Unlock n t done failed) h = ap (went done) h
failed_reply (event.Seize n got failed) h = ap (went got) h
failed_reply e h = absurd (cc)

module _ (j : Job) where
  over_reply : (s : State) (r : Reply) → IsOver s → IsOver (after_reply j s r)
  over_reply Checking (Went b) h = tt
  over_reply Checking (Saw c) h = tt
  over_reply Checking (Long n) h = tt
  over_reply Checking Short h = tt
  over_reply Checking Fault h = tt
  over_reply (Releasing a) (Went b) h = tt
  over_reply (Releasing a) (Saw c) h = tt
  over_reply (Releasing a) (Long n) h = tt
  over_reply (Releasing a) Short h = tt
  over_reply (Releasing a) Fault h = tt
  over_reply (Ended a) (Went b) h = tt
  over_reply (Ended a) (Saw c) h = tt
  over_reply (Ended a) (Long n) h = tt
  over_reply (Ended a) Short h = tt
  over_reply (Ended a) Fault h = tt
  over_reply s r h = absurd h

  over_refused : (s : State) → IsOver s → IsOver (refused j s)
  over_refused Checking h = tt
  over_refused (Releasing a) h = tt
  over_refused (Ended a) h = tt
  over_refused s h = absurd h

  over_now : (s now : State) → (now ≡ s) ⊎ (now ≡ refused j s) → IsOver s → IsOver now
  over_now s now (inl p) h = subst IsOver (sym p) h
  over_now s now (inr p) h = subst IsOver (sym p) (over_refused s h)

  looks : {e : Event} → IsOf (ToLoad (record_name j.actor)) e → may_act e ≡ false
  looks loads = refl

  gives_up : {e : Event} → IsOf (ToRelease (right_name j.actor)) e → may_act e ≡ false
  gives_up releases = refl

  over_acts : (s : State) (e : Event) → IsOver s → IsNext (next j s) e → may_act e ≡ false
  over_acts Checking e h is = looks is
  over_acts (Releasing a) e h is = gives_up is
  over_acts (Ended a) e h is = absurd is
  over_acts s e h is = absurd h

  nothing_more : (es : List Event) (s last : State) → IsOver s → Goes j s (own es) last → list_any may_act es ≡ false
  nothing_more [] s last h goes = refl
  nothing_more (event.Foreign f ∷ es) s last h goes = nothing_more es s last h goes
  nothing_more (e ∷ es) s last h goes =
      let now = over_now s goes.0 goes.1 h in
      ap (λ (b : Bool). b || list_any may_act es) (over_acts goes.0 e now goes.2) ∙ nothing_more es (after_reply j goes.0 (reply e)) last (over_reply goes.0 (reply e) now) goes.3

  after_fault : (e : Event) (rest : List Event) (s last : State) → is_failed e ≡ true → Goes j s (own (e ∷ rest)) last → list_any may_act rest ≡ false
  after_fault (event.Foreign f) rest s last h goes = absurd (cc)
  after_fault e rest s last h goes =
      let over : IsOver (after_reply j goes.0 (reply e)) = subst (λ (r : Reply). IsOver (after_reply j goes.0 r)) (sym (failed_reply e h)) (over_faulted goes.0) in
      nothing_more rest (after_reply j goes.0 (reply e)) last over goes.3

pub nothing_after_a_fault : NothingAfterAFault
nothing_after_a_fault j d before e rest last run h =
    let w = run_front j d before (e ∷ rest) last run in
    after_fault j e rest w.0 last h w.2
