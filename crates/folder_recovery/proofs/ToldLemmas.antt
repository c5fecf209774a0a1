-- A recovery answers as its own events give it.
use Rattle.std.proofs.Common.{◌≡◌, ◌⊎◌, ℕ, Bool, true, false, List, [], ◌∷◌, refl, ap, sym, subst, inl, inr, ◌∙◌}
use Rattle.std.specs.declared.option.Option.{Option}
use Rattle.std.specs.declared.option.Option.TheVariants.{Some, None}
use Rattle.std.specs.declared.result.Result.{Result}
use Rattle.std.specs.declared.result.Result.TheVariants.{Ok, Err}
use Rattle.std.proofs.lemmas.Bool.{cases_Bool}
use Rattle.host_port.specs.declared.event.Event.{Event}
use Rattle.host_port.specs.declared.event.Event.TheVariants as event
use Rattle.host_port.specs.declared.event.Seen.{Seen}
use Rattle.host_port.specs.declared.event.Seen.TheVariants as seen
use Rattle.commit_record.specs.declared.record.Record.{Record}
use Rattle.commit_record.specs.declared.way.Way.{Way}
use Rattle.commit_record.specs.declared.way.Way.TheVariants.{Replace, Remove, Extend}
use Rattle.commit_machine.specs.Names.{record_name, new_name, right_name, staged_name}
use Rattle.commit_machine.specs.Records.{record_of, is_go, names_of}
use Rattle.commit_machine.specs.Items.{Item, found_items}
use Rattle.commit_machine.specs.Jobs.{Before, Found, Nothing, Busy, NotARecord, TooLarge, Ending, Recovered, Refused, Failed, NoMemory, Job}
use Rattle.commit_machine.specs.Edits.{recovery_for}
use Rattle.commit_machine.specs.Machine.{State, Seizing, Looking, Undoing, Placing, Testing, Removing, Extending, Discarding, Unlocking, Erasing, Clearing, Releasing, Ended, GoOn, ToLoad, ToExtend, ToErase, ToPublish, ToUnlock, ToSeize, ToRelease, unlocking, undoing, stay, place_one, place_known, placing, mending, record_seen, found_of, next, refused, after_reply}
use Rattle.commit_machine.specs.Goes.{IsOf, loads, publishes, extends, extend_fails, erases, unlocks, seizes, releases, IsNext, reply, Goes}
use Rattle.commit_driver.specs.declared.step.Recovered.{Recovered as Found_answer}
use Rattle.folder_recovery.specs.declared.error.RecoverError.{RecoverError}
use Rattle.folder_recovery.specs.declared.error.RecoverError.TheVariants as error
use Rattle.folder_recovery.specs.Recovering.{found, GoesTo, Recovers}
use Rattle.folder_recovery.specs.Told.{unless_failed, unless_long, end_read, told_end, IsTold}

-- an end that is this one, or that memory ran out
abbrev Is : Ending → Ending → Type 0
Is x end = (end ≡ x) ⊎ (end ≡ NoMemory)

-- the end that events leave, where it was this one before them
abbrev ended : List Event → Ending → Ending
ended es x = unless_failed es (unless_long es x)

-- the states of a recovery on the way to an end
abbrev Heads : Ending → State → Type 0
Heads x (Undoing r n ns ls GoOn) = x ≡ Recovered (found_of r)
Heads x (Placing r y ys ls GoOn) = x ≡ Recovered (found_of r)
Heads x (Testing r y ys ls) = x ≡ Recovered (found_of r)
Heads x (Removing r y ys ls GoOn) = x ≡ Recovered (found_of r)
Heads x (Extending r y ys ls GoOn) = x ≡ Recovered (found_of r)
Heads x (Discarding r y ys ls GoOn) = x ≡ Recovered (found_of r)
Heads x (Unlocking r n ns GoOn) = x ≡ Recovered (found_of r)
Heads x (Erasing r GoOn) = x ≡ Recovered (found_of r)
Heads x (Clearing f) = x ≡ Recovered f
Heads x s = ⊥

heads_unlocking : (x : Ending) (r : Record) (ls : List (List ℕ)) → x ≡ Recovered (found_of r) → Heads x (unlocking r ls GoOn)
heads_unlocking x r [] h = h
heads_unlocking x r (l ∷ ls) h = h

heads_undoing : (x : Ending) (r : Record) (ns ls : List (List ℕ)) → x ≡ Recovered (found_of r) → Heads x (undoing r ns ls GoOn)
heads_undoing x r [] ls h = heads_unlocking x r ls h
heads_undoing x r (n ∷ ns) ls h = h

heads_one : (x : Ending) (way : Way) (r : Record) (y : Item) (ys : List Item) (ls : List (List ℕ)) → x ≡ Recovered (found_of r) → Heads x (place_one way r y ys ls GoOn)
heads_one x Replace r y ys ls h = h
heads_one x Remove r y ys ls h = h
heads_one x (Extend at) r y ys ls h = h

heads_known : (x : Ending) (way : Way) (r : Record) (y : Item) (ys : List Item) (ls : List (List ℕ)) → x ≡ Recovered (found_of r) → Heads x (place_known way r y ys ls GoOn)
heads_known x Replace r y ys ls h = h
heads_known x Remove r y ys ls h = h
heads_known x (Extend at) r y ys ls h = h

heads_placing : (x : Ending) (r : Record) (ys : List Item) (ls : List (List ℕ)) → x ≡ Recovered (found_of r) → Heads x (placing r ys ls GoOn)
heads_placing x r [] ls h = heads_unlocking x r ls h
heads_placing x r (y ∷ ys) ls h = heads_one x y.way r y ys ls h

heads_mending : (x : Ending) (r : Record) → x ≡ Recovered (found_of r) → Heads x (mending r)
heads_mending x r h = elim (cases_Bool (is_go r)) [ inl y ↦ rw y (heads_placing x r (found_items r) (names_of r) h) | inr nay ↦ rw nay (heads_undoing x r (names_of r) (names_of r) h) ]

erase-is : (n : List ℕ) (e : Event) → IsOf (ToErase n) e → (done : Bool) × (failed : Bool) × (e ≡ event.Erase n done failed)
erase-is n e (erases {done = done} {failed = failed}) = (done, failed, refl)

extend-is : {c : List ℕ} (n : List ℕ) (at : ℕ) (e : Event) → IsOf (ToExtend n at c) e → (tail : List ℕ) × (failed : Bool) × (e ≡ event.Extend n at tail failed)
extend-is n at e (extends {c = c}) = (c, false, refl)
extend-is n at e (extend_fails {left = tail}) = (tail, true, refl)

publish-is : (from to : List ℕ) (e : Event) → IsOf (ToPublish from to) e → (done : Bool) × (failed : Bool) × (e ≡ event.Publish from to done failed)
publish-is from to e (publishes {done = done} {failed = failed}) = (done, failed, refl)

unlock-is : (n : List ℕ) (t : ℕ) (e : Event) → IsOf (ToUnlock n t) e → (done : Bool) × (failed : Bool) × (e ≡ event.Unlock n t done failed)
unlock-is n t e (unlocks {done = done} {failed = failed}) = (done, failed, refl)

pub seize-is : (n : List ℕ) (e : Event) → IsOf (ToSeize n) e → (got : Bool) × (failed : Bool) × (e ≡ event.Seize n got failed)
seize-is n e (seizes {got = got} {failed = failed}) = (got, failed, refl)

pub load-is : (n : List ℕ) (e : Event) → IsOf (ToLoad n) e → (s : Seen) × (e ≡ event.Load n s)
load-is n e (loads {s = s}) = (s, refl)

pub release-is : (n : List ℕ) (e : Event) → IsOf (ToRelease n) e → e ≡ event.Release n
release-is n e releases = refl

module _ (actor : List ℕ) (token : ℕ) where
  abbrev job : Job
  job = recovery_for actor token

  -- after an event the way is the same, and the event changes nothing of the end
  abbrev GoesWith : Ending → State → Event → Type 0
  GoesWith x s e = Heads x (after_reply job s (reply e)) × ((es : List Event) → ended (e ∷ es) x ≡ ended es x)

  -- or it leads to the release with an end, and is the cause of that
  abbrev Cuts : Ending → State → Event → Type 0
  Cuts x s e = (a : Ending) × (after_reply job s (reply e) ≡ Releasing a) × ((n : List ℕ) → ended (e ∷ event.Release n ∷ []) x ≡ a)

  abbrev Stays : Ending → State → Event → Type 0
  Stays x s e = GoesWith x s e ⊎ Cuts x s e

  undoing-stays : (x : Ending) (r : Record) (n : List ℕ) (ns ls : List (List ℕ)) → x ≡ Recovered (found_of r) → (done failed : Bool)
      → Stays x (Undoing r n ns ls GoOn) (event.Erase (staged_name r.token n) done failed)
  undoing-stays x r n ns ls h done true = inr (Failed Before, refl, λ m. refl)
  undoing-stays x r n ns ls h done false = inl (heads_undoing x r ns ls h, λ es. refl)

  placing-stays : (x : Ending) (r : Record) (y : Item) (ys : List Item) (ls : List (List ℕ)) → x ≡ Recovered (found_of r) → (done failed : Bool)
      → Stays x (Placing r y ys ls GoOn) (event.Publish (staged_name r.token y.name) y.name done failed)
  placing-stays x r y ys ls h done true = inr (Failed Before, refl, λ m. refl)
  placing-stays x r y ys ls h done false = inl (heads_placing x r ys ls h, λ es. refl)

  testing-stays : (x : Ending) (r : Record) (y : Item) (ys : List Item) (ls : List (List ℕ)) → x ≡ Recovered (found_of r) → (s : Seen)
      → (Stays x (Testing r y ys ls) (event.Load (staged_name r.token y.name) s)) ⊎ (s ≡ seen.Memory)
  testing-stays x r y ys ls h (seen.Bytes None held) = inl (inl (heads_placing x r ys ls h, λ es. refl))
  testing-stays x r y ys ls h (seen.Bytes (Some bytes) held) = inl (inl (heads_known x y.way r (record y { staged = Some bytes }) ys ls h, λ es. refl))
  testing-stays x r y ys ls h (seen.TooLarge k) = inl (inr (Refused (TooLarge (staged_name r.token y.name) k), refl, λ m. refl))
  testing-stays x r y ys ls h seen.Failed = inl (inr (Failed Before, refl, λ m. refl))
  testing-stays x r y ys ls h seen.Memory = inr refl

  removing-stays : (x : Ending) (r : Record) (y : Item) (ys : List Item) (ls : List (List ℕ)) → x ≡ Recovered (found_of r) → (done failed : Bool)
      → Stays x (Removing r y ys ls GoOn) (event.Erase y.name done failed)
  removing-stays x r y ys ls h done true = inr (Failed Before, refl, λ m. refl)
  removing-stays x r y ys ls h done false = inl (h, λ es. refl)

  extending-stays : (x : Ending) (r : Record) (y : Item) (ys : List Item) (ls : List (List ℕ)) → x ≡ Recovered (found_of r)
      → (tail : List ℕ) (failed : Bool) → Stays x (Extending r y ys ls GoOn) (event.Extend y.name (stay y.way) tail failed)
  extending-stays x r y ys ls h tail true = inr (Failed Before, refl, λ m. refl)
  extending-stays x r y ys ls h tail false = inl (h, λ es. refl)

  discarding-stays : (x : Ending) (r : Record) (y : Item) (ys : List Item) (ls : List (List ℕ)) → x ≡ Recovered (found_of r) → (done failed : Bool)
      → Stays x (Discarding r y ys ls GoOn) (event.Erase (staged_name r.token y.name) done failed)
  discarding-stays x r y ys ls h done true = inr (Failed Before, refl, λ m. refl)
  discarding-stays x r y ys ls h done false = inl (heads_placing x r ys ls h, λ es. refl)

  unlocking-stays : (x : Ending) (r : Record) (n : List ℕ) (ns : List (List ℕ)) → x ≡ Recovered (found_of r) → (done failed : Bool)
      → Stays x (Unlocking r n ns GoOn) (event.Unlock n r.token done failed)
  unlocking-stays x r n ns h done true = inr (Failed Before, refl, λ m. refl)
  unlocking-stays x r n ns h done false = inl (heads_unlocking x r ns h, λ es. refl)

  erasing-stays : (x : Ending) (r : Record) → x ≡ Recovered (found_of r) → (done failed : Bool) → Stays x (Erasing r GoOn) (event.Erase (record_name actor) done failed)
  erasing-stays x r h done true = inr (Failed Before, refl, λ m. refl)
  erasing-stays x r h done false = inl (h, λ es. refl)

  clearing-stays : (x : Ending) (f : Found) → x ≡ Recovered f → (done failed : Bool) → Stays x (Clearing f) (event.Erase (new_name actor) done failed)
  clearing-stays x f h done true = inr (Failed Before, refl, λ m. refl)
  clearing-stays x f h done false = inr (Recovered f, refl, λ m. h)

  -- an event of the next call stays on the way, or it is a load that runs out of memory
  abbrev Passes : Ending → State → Event → Type 0
  Passes x s e = Stays x s e ⊎ (after_reply job s (reply e) ≡ Releasing NoMemory)

  stays : (x : Ending) (s : State) (e : Event) → Heads x s → IsNext (next job s) e → Passes x s e
  stays x (Undoing r n ns ls GoOn) e h is = let w = erase-is (staged_name r.token n) e is in subst (Passes x (Undoing r n ns ls GoOn)) (sym w.2) (inl (undoing-stays x r n ns ls h w.0 w.1))
  stays x (Placing r y ys ls GoOn) e h is = let w = publish-is (staged_name r.token y.name) y.name e is in
      subst (Passes x (Placing r y ys ls GoOn)) (sym w.2) (inl (placing-stays x r y ys ls h w.0 w.1))
  stays x (Testing r y ys ls) e h is =
      let w = load-is (staged_name r.token y.name) e is in
      subst (Passes x (Testing r y ys ls)) (sym w.1)
      (elim (testing-stays x r y ys ls h w.0) [ inl z ↦ inl z | inr m ↦ inr (ap (λ (s : Seen). after_reply job (Testing r y ys ls) (reply (event.Load (staged_name r.token y.name) s))) m) ])
  stays x (Removing r y ys ls GoOn) e h is = let w = erase-is y.name e is in subst (Passes x (Removing r y ys ls GoOn)) (sym w.2) (inl (removing-stays x r y ys ls h w.0 w.1))
  stays x (Extending r y ys ls GoOn) e h is = let w = extend-is y.name (stay y.way) e is in subst (Passes x (Extending r y ys ls GoOn)) (sym w.2) (inl (extending-stays x r y ys ls h w.0 w.1))
  stays x (Discarding r y ys ls GoOn) e h is = let w = erase-is (staged_name r.token y.name) e is in
      subst (Passes x (Discarding r y ys ls GoOn)) (sym w.2) (inl (discarding-stays x r y ys ls h w.0 w.1))
  stays x (Unlocking r n ns GoOn) e h is = let w = unlock-is n r.token e is in subst (Passes x (Unlocking r n ns GoOn)) (sym w.2) (inl (unlocking-stays x r n ns h w.0 w.1))
  stays x (Erasing r GoOn) e h is = let w = erase-is (record_name actor) e is in subst (Passes x (Erasing r GoOn)) (sym w.2) (inl (erasing-stays x r h w.0 w.1))
  stays x (Clearing f) e h is = let w = erase-is (new_name actor) e is in subst (Passes x (Clearing f)) (sym w.2) (inl (clearing-stays x f h w.0 w.1))
  stays x s e h is = absurd h

  -- memory runs out on the way
  refuses : (x : Ending) (s : State) → Heads x s → refused job s ≡ Releasing NoMemory
  refuses x (Undoing r n ns ls GoOn) h = refl
  refuses x (Placing r y ys ls GoOn) h = refl
  refuses x (Testing r y ys ls) h = refl
  refuses x (Removing r y ys ls GoOn) h = refl
  refuses x (Extending r y ys ls GoOn) h = refl
  refuses x (Discarding r y ys ls GoOn) h = refl
  refuses x (Unlocking r n ns GoOn) h = refl
  refuses x (Erasing r GoOn) h = refl
  refuses x (Clearing f) h = refl
  refuses x s h = absurd h

  at-end : (a end : Ending) (es : List Event) → Goes job (Ended a) es (Ended end) → (es ≡ []) × (end ≡ a)
  at-end a end [] (inl p) = (refl, cc)
  at-end a end [] (inr p) = (refl, cc)
  at-end a end (e ∷ es) (now, inl p, is, more) = absurd (subst (λ (s : State). IsNext (next job s) e) p is)
  at-end a end (e ∷ es) (now, inr p, is, more) = absurd (subst (λ (s : State). IsNext (next job s) e) p is)

  -- what follows where the right is given up with an answer: the release alone
  abbrev IsLast : Ending → Ending → List Event → Type 0
  IsLast a end es = (n : List ℕ) × (es ≡ event.Release n ∷ []) × (end ≡ a)

  released : (a end : Ending) (e : Event) (es : List Event) (now : State) → now ≡ Releasing a → IsNext (next job now) e
      → Goes job (after_reply job now (reply e)) es (Ended end) → IsLast a end (e ∷ es)
  released a end e es now p is more =
      let is' = subst (λ (s : State). IsNext (next job s) e) p is in
      let e' = release-is (right_name actor) e is' in
      let G : State → Event → Type 0 = λ s e. Goes job (after_reply job s (reply e)) es (Ended end) in
      let w = at-end a end es (subst (λ (z : Event). G (Releasing a) z) e' (subst (λ (s : State). G s e) p more)) in
      (right_name actor, ap (λ (z : Event). z ∷ es) e' ∙ ap (λ (zs : List Event). event.Release (right_name actor) ∷ zs) w.0, w.1)

  last-of : (a end : Ending) (es : List Event) → Goes job (Releasing a) es (Ended end) → IsLast a end es
  last-of a end [] (inl p) = absurd (cc)
  last-of a end [] (inr p) = absurd (cc)
  last-of a end (e ∷ es) (now, inl p, is, more) = released a end e es now p is more
  last-of a end (e ∷ es) (now, inr p, is, more) = released a end e es now p is more

  releasing : (a end : Ending) (es : List Event) → Goes job (Releasing a) es (Ended end) → end ≡ a
  releasing a end es goes = (last-of a end es goes).2

  -- the release changes nothing of the end
  last-ended : (a end : Ending) (es : List Event) → Goes job (Releasing a) es (Ended end) → Is (ended es a) end
  last-ended a end es goes = let w = last-of a end es goes in inl (w.2 ∙ sym (ap (λ (zs : List Event). ended zs a) w.1))

  cut-end : (x : Ending) (s : State) (e : Event) (es : List Event) (end : Ending) → Cuts x s e → Goes job (after_reply job s (reply e)) es (Ended end) → Is (ended (e ∷ es) x) end
  cut-end x s e es end (a, at, same) more =
      let w = last-of a end es (subst (λ (z : State). Goes job z es (Ended end)) at more) in
      inl (w.2 ∙ sym (same w.0) ∙ sym (ap (λ (zs : List Event). ended (e ∷ zs) x) w.1))

  goes-on : (es : List Event) (x : Ending) (s : State) (end : Ending) → Heads x s → Goes job s es (Ended end) → Is (ended es x) end
  goes-on [] x s end h (inl p) = absurd (subst (Heads x) p h)
  goes-on [] x s end h (inr p) = let w : Releasing NoMemory ≡ Ended end = sym (refuses x s h) ∙ p in absurd (cc)
  goes-on (e ∷ es) x s end h (now, inr p, is, more) = inr (released NoMemory end e es now (p ∙ refuses x s h) is more).2
  goes-on (e ∷ es) x s end h (now, inl p, is, more) = elim (stays x now e (subst (Heads x) (sym p) h) is) [
    | inl on ↦ elim on [
      | inl with ↦ subst (λ (y : Ending). Is y end) (sym (with.1 es)) (goes-on es x (after_reply job now (reply e)) end with.0 more)
      | inr cuts ↦ cut-end x now e es end cuts more
    ]
    | inr short ↦ inr (releasing NoMemory end es (subst (λ (z : State). Goes job z es (Ended end)) short more))
  ]

  read-on : (o : Option Record) (es : List Event) (end : Ending) → Goes job (record_seen o) es (Ended end) → Is (ended es (end_read o)) end
  read-on None es end goes = last-ended (Refused NotARecord) end es goes
  read-on (Some r) es end goes = goes-on es (Recovered (found_of r)) (mending r) end (heads_mending (Recovered (found_of r)) r refl) goes

  saw-on : (n m : List ℕ) (s : Seen) (es : List Event) (end : Ending) → Goes job (after_reply job Looking (reply (event.Load m s))) es (Ended end)
      → Is (told_end actor (event.Seize n true false ∷ event.Load m s ∷ es)) end
  saw-on n m (seen.Bytes None held) es end goes = goes-on es (Recovered Nothing) (Clearing Nothing) end refl goes
  saw-on n m (seen.Bytes (Some bytes) held) es end goes = read-on (record_of bytes) es end goes
  saw-on n m (seen.TooLarge k) es end goes = last-ended (Refused (TooLarge (record_name actor) k)) end es goes
  saw-on n m seen.Failed es end goes = inl (releasing (Failed Before) end es goes)
  saw-on n m seen.Memory es end goes = inr (releasing NoMemory end es goes)

  looking : (n : List ℕ) (es : List Event) (end : Ending) → Goes job Looking es (Ended end) → Is (told_end actor (event.Seize n true false ∷ es)) end
  looking n [] end (inl p) = absurd (cc)
  looking n [] end (inr p) = absurd (cc)
  looking n (e ∷ es) end (now, inr p, is, more) = inr (released NoMemory end e es now p is more).2
  looking n (e ∷ es) end (now, inl p, is, more) =
      let is' = subst (λ (s : State). IsNext (next job s) e) p is in
      let w = load-is (record_name actor) e is' in
      let G : State → Event → Type 0 = λ s e. Goes job (after_reply job s (reply e)) es (Ended end) in
      let more' = subst (λ (z : Event). G Looking z) w.1 (subst (λ (s : State). G s e) p more) in
      subst (λ (z : Event). Is (told_end actor (event.Seize n true false ∷ z ∷ es)) end) (sym w.1) (saw-on n (record_name actor) w.0 es end more')

  seized : (got failed : Bool) (es : List Event) (end : Ending)
      → Goes job (after_reply job Seizing (reply (event.Seize (right_name actor) got failed))) es (Ended end) → Is (told_end actor (event.Seize (right_name actor) got failed ∷ es)) end
  seized got true es end goes = inl (releasing (Failed Before) end es goes)
  seized true false es end goes = looking (right_name actor) es end goes
  seized false false es end goes = busy es goes
    where
      busy : (es : List Event) → Goes job (Ended (Refused (Busy (right_name actor)))) es (Ended end) → Is (told_end actor (event.Seize (right_name actor) false false ∷ es)) end
      busy [] goes = inl (at-end (Refused (Busy (right_name actor))) end [] goes).1
      busy (e ∷ es) (now, inl p, is, more) = absurd (subst (λ (s : State). IsNext (next job s) e) p is)
      busy (e ∷ es) (now, inr p, is, more) = absurd (subst (λ (s : State). IsNext (next job s) e) p is)

  pub told : (es : List Event) (end : Ending) → GoesTo job es end → Is (told_end actor es) end
  told [] end (inl p) = absurd (cc)
  told [] end (inr p) = inr (cc)
  told (e ∷ es) end (now, inr p, is, more) = absurd (subst (λ (s : State). IsNext (next job s) e) p is)
  told (e ∷ es) end (now, inl p, is, more) =
      let is' = subst (λ (s : State). IsNext (next job s) e) p is in
      let w = seize-is (right_name actor) e is' in
      let G : State → Event → Type 0 = λ s e. Goes job (after_reply job s (reply e)) es (Ended end) in
      let more' = subst (λ (z : Event). G Seizing z) w.2 (subst (λ (s : State). G s e) p more) in
      subst (λ (z : Event). Is (told_end actor (z ∷ es)) end) (sym w.2) (seized w.0 w.1 es end more')

  not-short : (x end : Ending) → Is x end → (end ≡ NoMemory → ⊥) → x ≡ end
  not-short x end (inl p) other = sym p
  not-short x end (inr p) other = absurd (other p)

  pub is-told : (es : List Event) (result : Result Found_answer RecoverError) → Recovers job es result → IsTold actor es result
  is-told es (Ok f) h = not-short (told_end actor es) (Recovered (found f)) (told es (Recovered (found f)) h) (λ p. absurd (cc))
  is-told es (Err (error.Busy name)) h = not-short (told_end actor es) (Refused (Busy name)) (told es (Refused (Busy name)) h.1) (λ p. absurd (cc))
  is-told es (Err error.NotARecord) h = not-short (told_end actor es) (Refused NotARecord) (told es (Refused NotARecord) h) (λ p. absurd (cc))
  is-told es (Err (error.TooLarge name n)) h = not-short (told_end actor es) (Refused (TooLarge name n)) (told es (Refused (TooLarge name n)) h.1) (λ p. absurd (cc))
  is-told es (Err error.Disk) h = not-short (told_end actor es) (Failed Before) (told es (Failed Before) h) (λ p. absurd (cc))
  is-told es (Err error.Memory) h = tt
