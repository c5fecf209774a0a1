-- The ends that a recovery may come to.
use Rattle.std.proofs.Common.{◌≡◌, ℕ, true, false, List, [], ◌∷◌, refl, sym, subst, inl, inr}
use Rattle.std.specs.declared.option.Option.{Option}
use Rattle.std.specs.declared.option.Option.TheVariants.{Some, None}
use Rattle.std.proofs.lemmas.Bool.{cases_Bool}
use Rattle.host_port.specs.declared.event.Event.{Event}
use Rattle.commit_record.specs.declared.record.Record.{Record}
use Rattle.commit_record.specs.declared.way.Way.{Way}
use Rattle.commit_record.specs.declared.way.Way.TheVariants.{Replace, Remove, Extend}
use Rattle.commit_machine.specs.Records.{record_of, is_go, names_of}
use Rattle.commit_machine.specs.Items.{Item, found_items}
use Rattle.commit_machine.specs.Jobs.{Passed, Before, Ending, Recovered, Refused, Failed, NoMemory, Job}
use Rattle.commit_machine.specs.Edits.{recovery_for}
use Rattle.commit_machine.specs.Machine.{State, Seizing, Looking, Undoing, Placing, Testing, Removing, Extending, Discarding, Unlocking, Erasing, Clearing, Releasing, Ended, GoOn, Reply, Went, Saw, Long, Short, unlocking, undoing, place_one, place_known, placing, tested, record_seen, refused, after_reply, passed_at, passed_ending}
use Rattle.commit_machine.specs.Goes.{reply, Goes}

-- nothing is decided in a recovery
abbrev pub MayEnd : Ending → Type 0
MayEnd (Recovered f) = Unit {0}
MayEnd (Refused why) = Unit {0}
MayEnd (Failed Before) = Unit {0}
MayEnd NoMemory = Unit {0}
MayEnd e = ⊥

-- the states of a recovery
abbrev pub Mends : State → Type 0
Mends Seizing = Unit {0}
Mends Looking = Unit {0}
Mends (Undoing r n ns ls GoOn) = Unit {0}
Mends (Placing r x xs ls GoOn) = Unit {0}
Mends (Testing r x xs ls) = Unit {0}
Mends (Removing r x xs ls GoOn) = Unit {0}
Mends (Extending r x xs ls GoOn) = Unit {0}
Mends (Discarding r x xs ls GoOn) = Unit {0}
Mends (Unlocking r n ns GoOn) = Unit {0}
Mends (Erasing r GoOn) = Unit {0}
Mends (Clearing f) = Unit {0}
Mends (Releasing e) = MayEnd e
Mends (Ended e) = MayEnd e
Mends s = ⊥

mends-unlocking : (r : Record) (ls : List (List ℕ)) → Mends (unlocking r ls GoOn)
mends-unlocking r [] = tt
mends-unlocking r (l ∷ ls) = tt

mends-undoing : (r : Record) (ns ls : List (List ℕ)) → Mends (undoing r ns ls GoOn)
mends-undoing r [] ls = mends-unlocking r ls
mends-undoing r (n ∷ ns) ls = tt

mends-one : (way : Way) (r : Record) (x : Item) (xs : List Item) (ls : List (List ℕ)) → Mends (place_one way r x xs ls GoOn)
mends-one Replace r x xs ls = tt
mends-one Remove r x xs ls = tt
mends-one (Extend at) r x xs ls = tt

mends-known : (way : Way) (r : Record) (x : Item) (xs : List Item) (ls : List (List ℕ)) → Mends (place_known way r x xs ls GoOn)
mends-known Replace r x xs ls = tt
mends-known Remove r x xs ls = tt
mends-known (Extend at) r x xs ls = tt

mends-placing : (r : Record) (xs : List Item) (ls : List (List ℕ)) → Mends (placing r xs ls GoOn)
mends-placing r [] ls = mends-unlocking r ls
mends-placing r (x ∷ xs) ls = mends-one x.way r x xs ls

mends-tested : (r : Record) (x : Item) (xs : List Item) (ls : List (List ℕ)) (c : Option (List ℕ)) → Mends (tested r x xs ls c)
mends-tested r x xs ls None = mends-placing r xs ls
mends-tested r x xs ls (Some bytes) = mends-known x.way r (record x { staged = Some bytes }) xs ls

mends-seen : (o : Option Record) → Mends (record_seen o)
mends-seen None = tt
mends-seen (Some r) = elim (cases_Bool (is_go r)) [ inl y ↦ rw y (mends-placing r (found_items r) (names_of r)) | inr nay ↦ rw nay (mends-undoing r (names_of r) (names_of r)) ]

ending-before : (e : Ending) → MayEnd e → passed_ending e ≡ Before
ending-before (Recovered f) h = refl
ending-before (Refused why) h = refl
ending-before (Failed Before) h = refl
ending-before NoMemory h = refl
ending-before e h = absurd h

before : (s : State) → Mends s → passed_at s ≡ Before
before Seizing h = refl
before Looking h = refl
before (Undoing r n ns ls GoOn) h = refl
before (Placing r x xs ls GoOn) h = refl
before (Testing r x xs ls) h = refl
before (Removing r x xs ls GoOn) h = refl
before (Extending r x xs ls GoOn) h = refl
before (Discarding r x xs ls GoOn) h = refl
before (Unlocking r n ns GoOn) h = refl
before (Erasing r GoOn) h = refl
before (Clearing f) h = refl
before (Releasing e) h = ending-before e h
before (Ended e) h = ending-before e h
before s h = absurd h

-- a call that failed, or an answer that doesn't fit
fails : (s : State) → Mends s → Mends (Releasing (Failed (passed_at s)))
fails s h = subst (λ (p : Passed). MayEnd (Failed p)) (sym (before s h)) tt

module _ (actor : List ℕ) (token : ℕ) where
  abbrev job : Job
  job = recovery_for actor token

  pub mends-refused : (s : State) → Mends s → Mends (refused job s)
  mends-refused Seizing h = tt
  mends-refused Looking h = tt
  mends-refused (Undoing r n ns ls GoOn) h = tt
  mends-refused (Placing r x xs ls GoOn) h = tt
  mends-refused (Testing r x xs ls) h = tt
  mends-refused (Removing r x xs ls GoOn) h = tt
  mends-refused (Extending r x xs ls GoOn) h = tt
  mends-refused (Discarding r x xs ls GoOn) h = tt
  mends-refused (Unlocking r n ns GoOn) h = tt
  mends-refused (Erasing r GoOn) h = tt
  mends-refused (Clearing f) h = tt
  mends-refused (Releasing e) h = h
  mends-refused (Ended e) h = h
  mends-refused s h = absurd h

  pub mends-reply : (s : State) (r : Reply) → Mends s → Mends (after_reply job s r)
  mends-reply Seizing (Went true) h = tt
  mends-reply Seizing (Went false) h = tt
  mends-reply Looking (Saw None) h = tt
  mends-reply Looking (Saw (Some bytes)) h = mends-seen (record_of bytes)
  mends-reply Looking (Long n) h = tt
  mends-reply (Undoing r n ns ls GoOn) (Went b) h = mends-undoing r ns ls
  mends-reply (Placing r x xs ls GoOn) (Went b) h = mends-placing r xs ls
  mends-reply (Testing r x xs ls) (Saw c) h = mends-tested r x xs ls c
  mends-reply (Testing r x xs ls) (Long m) h = tt
  mends-reply (Removing r x xs ls GoOn) (Went b) h = tt
  mends-reply (Extending r x xs ls GoOn) (Went b) h = tt
  mends-reply (Discarding r x xs ls GoOn) (Went b) h = mends-placing r xs ls
  mends-reply (Unlocking r n ns GoOn) (Went b) h = mends-unlocking r ns
  mends-reply (Erasing r GoOn) (Went b) h = tt
  mends-reply (Clearing f) (Went b) h = tt
  mends-reply (Releasing e) (Went b) h = h
  mends-reply (Releasing e) Short h = h
  mends-reply (Ended e) Short h = h
  mends-reply Seizing Short h = tt
  mends-reply Looking Short h = tt
  mends-reply (Undoing r n ns ls GoOn) Short h = tt
  mends-reply (Placing r x xs ls GoOn) Short h = tt
  mends-reply (Testing r x xs ls) Short h = tt
  mends-reply (Removing r x xs ls GoOn) Short h = tt
  mends-reply (Extending r x xs ls GoOn) Short h = tt
  mends-reply (Discarding r x xs ls GoOn) Short h = tt
  mends-reply (Unlocking r n ns GoOn) Short h = tt
  mends-reply (Erasing r GoOn) Short h = tt
  mends-reply (Clearing f) Short h = tt
  mends-reply Seizing r h = tt
  mends-reply Looking r h = tt
  mends-reply (Undoing q n ns ls GoOn) r h = fails (Undoing q n ns ls GoOn) h
  mends-reply (Placing q x xs ls GoOn) r h = fails (Placing q x xs ls GoOn) h
  mends-reply (Testing q x xs ls) r h = fails (Testing q x xs ls) h
  mends-reply (Removing q x xs ls GoOn) r h = fails (Removing q x xs ls GoOn) h
  mends-reply (Extending q x xs ls GoOn) r h = fails (Extending q x xs ls GoOn) h
  mends-reply (Discarding q x xs ls GoOn) r h = fails (Discarding q x xs ls GoOn) h
  mends-reply (Unlocking q n ns GoOn) r h = fails (Unlocking q n ns GoOn) h
  mends-reply (Erasing q GoOn) r h = fails (Erasing q GoOn) h
  mends-reply (Clearing f) r h = fails (Clearing f) h
  mends-reply (Releasing e) r h = fails (Releasing e) h
  mends-reply (Ended e) r h = fails (Ended e) h
  mends-reply s r h = absurd h

  mends-last : (es : List Event) (s last : State) → Mends s → Goes job s es last → Mends last
  mends-last [] s last h (inl p) = subst Mends p h
  mends-last [] s last h (inr p) = subst Mends p (mends-refused s h)
  mends-last (e ∷ es) s last h (now, from, is, more) =
      let at : Mends now = elim from [ inl p ↦ subst Mends (sym p) h | inr p ↦ subst Mends (sym p) (mends-refused s h) ] in
      mends-last es (after_reply job now (reply e)) last (mends-reply now (reply e) at) more

  pub may-end : (es : List Event) (e : Ending) → Goes job Seizing es (Ended e) → MayEnd e
  may-end es e goes = mends-last es Seizing (Ended e) tt goes
