-- The states before an end as done: only the decision leads into them.
use Rattle.std.proofs.Common.{◌≡◌, ℕ, ℤ, Bool, true, false, ◌==◌, List, [], ◌∷◌, ◌++◌, Option, Some, None, if◌then◌else◌, refl, ap, ◌∙◌, arith}
use Rattle.std.proofs.lemmas.Grind.{common_steps}
use Rattle.commit_record.specs.declared.record.Record.{Record}
use Rattle.commit_record.specs.declared.way.Way.{Way}
use Rattle.commit_record.specs.declared.way.Way.TheVariants.{Replace, Remove, Extend}
use Rattle.host_port.specs.declared.event.Event.{Event}
use Rattle.host_port.specs.declared.event.Event.TheVariants as event
use Rattle.host_port.specs.Disk.{Disk}
use Rattle.commit_machine.specs.Names.{record_name, new_name}
use Rattle.commit_machine.specs.Records.{record_in, record_of, is_go, names_of}
use Rattle.commit_machine.specs.Items.{Item, found_items}
use Rattle.commit_machine.specs.Jobs.{Ending, Done, Refused, NoMemory, Found, Busy, TooLarge, Refusal, Outcome, Puts, Edit, Job, Made, IsJob, edits_of, all_of, prepare_of, go_of, seen_files}
use Rattle.commit_machine.specs.Machine.{Then, GoOn, Answer, State, Seizing, Timing, Looking, Undoing, Placing, Testing, Removing, Extending, Discarding, Unlocking, Erasing, Clearing, Preparing, Publishing, Locking, Loading, Staging, Deciding, Committing, Checking, Releasing, Ended, Reply, Went, Saw, Long, Short, Fault, ToPublish, next, after_reply, refused, wanted, faulted, saw, too_long, went_on, undoing, placing, unlocking, locking, loaded, loading, judged, staging, removing, extending, tested, place_one, place_known, mended, none_stands, record_seen, looked, asking, is_own_go}
use Rattle.commit_machine.specs.Goes.{IsOf, publishes, IsNext, reply}
use Rattle.commit_machine.specs.Lawful.{IsSound}
use Rattle.commit_machine.specs.Due.{settled_files, settled_locks, is_decision}
use Rattle.commit_machine.proofs.standing.Known.{Knows}
use Rattle.commit_machine.proofs.records.Same.{same_refl}
use Rattle.commit_machine.proofs.steps.Decision.{new_go}

abbrev pub end_done : Ending → Bool
end_done Done = true
end_done e = false

abbrev pub then_done : Then → Bool
then_done GoOn = false
then_done (Answer e) = end_done e

-- the end will be as done
abbrev pub is_done : State → Bool
is_done (Undoing r m ns ls th) = then_done th
is_done (Placing r x xs ls th) = then_done th
is_done (Removing r x xs ls th) = then_done th
is_done (Extending r x xs ls th) = then_done th
is_done (Discarding r x xs ls th) = then_done th
is_done (Unlocking r m ns th) = then_done th
is_done (Erasing r th) = then_done th
is_done (Releasing e) = end_done e
is_done (Ended e) = end_done e
is_done s = false

abbrev Un : State → Type 0
Un s = is_done s ≡ false

abbrev UnThen : Then → Type 0
UnThen th = then_done th ≡ false

abbrev IsPlain : State → Type 0
IsPlain (Committing made) = ⊥
IsPlain s = Unit {0}

module _ (j : Job) where
  un-unlocking : (r : Record) (ls : List (List ℕ)) (th : Then) → UnThen th → Un (unlocking r ls th)
  un-unlocking r [] th t = t
  un-unlocking r (m ∷ ms) th t = t

  un-undoing : (r : Record) (ns ls : List (List ℕ)) (th : Then) → UnThen th → Un (undoing r ns ls th)
  un-undoing r [] ls th t = un-unlocking r ls th t
  un-undoing r (m ∷ ns) ls th t = t

  un-removing : (r : Record) (x : Item) (xs : List Item) (ls : List (List ℕ)) (th : Then) → UnThen th → Un (removing r x xs ls th)
  un-removing r x xs ls GoOn t = refl
  un-removing r x xs ls (Answer e) t = t

  un-extending : (r : Record) (x : Item) (xs : List Item) (ls : List (List ℕ)) (th : Then) → UnThen th → Un (extending r x xs ls th)
  un-extending r x xs ls GoOn t = refl
  un-extending r x xs ls (Answer e) t = t

  un-place_one : (way : Way) (r : Record) (x : Item) (xs : List Item) (ls : List (List ℕ)) (th : Then) → UnThen th → Un (place_one way r x xs ls th)
  un-place_one Replace r x xs ls th t = t
  un-place_one Remove r x xs ls th t = un-removing r x xs ls th t
  un-place_one (Extend at) r x xs ls th t = un-extending r x xs ls th t

  un-placing : (r : Record) (xs : List Item) (ls : List (List ℕ)) (th : Then) → UnThen th → Un (placing r xs ls th)
  un-placing r [] ls th t = un-unlocking r ls th t
  un-placing r (x ∷ xs) ls th t = un-place_one x.way r x xs ls th t

  un-staging : (ns : List (List ℕ)) (made left : List Made) → Un (staging ns made left)
  un-staging ns made [] = refl
  un-staging ns made (x ∷ left) = refl

  un-judged : (made : List Made) (o : Option Refusal) → Un (judged j made o)
  un-judged made None = un-staging [] made made
  un-judged made (Some why) = un-undoing (prepare_of j) [] (all_of j) (Answer (Refused why)) refl

  un-loading : (made : List Made) (left : List Edit) → Un (loading j made left)
  un-loading made [] = un-judged made (j.refusal (seen_files made))
  un-loading made (e ∷ left) = refl

  un-locking : (ls : List (List ℕ)) (left : List Edit) → Un (locking j ls left)
  un-locking ls [] = un-loading [] (edits_of j)
  un-locking ls (e ∷ left) = refl

  un-mending : (r : Record) (b : Bool) → Un (if b then placing r (found_items r) (names_of r) GoOn else undoing r (names_of r) (names_of r) GoOn)
  un-mending r true = un-placing r (found_items r) (names_of r) GoOn refl
  un-mending r false = un-undoing r (names_of r) (names_of r) GoOn refl

  un-record : (o : Option Record) → Un (record_seen o)
  un-record None = refl
  un-record (Some r) = un-mending r (is_go r)

  un-none : (o : Option (List Edit)) → Un (none_stands o)
  un-none None = refl
  un-none (Some es) = refl

  un-mended : (found : Found) (o : Option (List Edit)) → Un (mended o found)
  un-mended found None = refl
  un-mended found (Some es) = refl

  un-known : (way : Way) (r : Record) (x : Item) (xs : List Item) (ls : List (List ℕ)) → Un (place_known way r x xs ls GoOn)
  un-known Replace r x xs ls = refl
  un-known Remove r x xs ls = refl
  un-known (Extend at) r x xs ls = refl

  un-tested : (r : Record) (x : Item) (xs : List Item) (ls : List (List ℕ)) (c : Option (List ℕ)) → Un (tested r x xs ls c)
  un-tested r x xs ls None = un-placing r xs ls GoOn refl
  un-tested r x xs ls (Some bytes) = un-known x.way r (record x { staged = Some bytes }) xs ls

  un-looked : (c : Option (List ℕ)) → Un (looked j c)
  un-looked None = un-none j.edits
  un-looked (Some bytes) = un-record (record_of bytes)

  un-loaded : (made : List Made) (x : Edit) (left : List Edit) (c : Option (List ℕ)) (v : Outcome) → Un (loaded j made x left c v)
  un-loaded made x left c (Puts way content) = un-loading _ left

  pub un-refused : (s : State) → Un s → Un (refused j s)
  un-refused (Undoing r m ns ls GoOn) t = refl
  un-refused (Undoing r m ns ls (Answer a)) t = t
  un-refused (Placing r x xs ls GoOn) t = refl
  un-refused (Placing r x xs ls (Answer a)) t = t
  un-refused (Removing r x xs ls GoOn) t = refl
  un-refused (Extending r x xs ls GoOn) t = refl
  un-refused (Removing r x xs ls (Answer a)) t = t
  un-refused (Extending r x xs ls (Answer a)) t = t
  un-refused (Discarding r x xs ls GoOn) t = refl
  un-refused (Discarding r x xs ls (Answer a)) t = t
  un-refused (Unlocking r m ns GoOn) t = refl
  un-refused (Unlocking r m ns (Answer a)) t = t
  un-refused (Erasing r GoOn) t = refl
  un-refused (Erasing r (Answer a)) t = t
  un-refused (Locking ls e left) t = un-undoing (prepare_of j) [] ls (Answer NoMemory) refl
  un-refused (Loading made e left) t = un-undoing (prepare_of j) [] (all_of j) (Answer NoMemory) refl
  un-refused (Staging ns made x left) t = un-undoing (prepare_of j) ns (all_of j) (Answer NoMemory) refl
  un-refused (Deciding made) t = un-undoing (prepare_of j) (all_of j) (all_of j) (Answer NoMemory) refl
  un-refused (Committing made) t = un-undoing (prepare_of j) (all_of j) (all_of j) (Answer NoMemory) refl
  un-refused (Releasing a) t = t
  un-refused s t = t

  un-wanted : (s : State) → Un s → Un (wanted j s)
  un-wanted Checking t = refl
  un-wanted s t = un-refused s t

  un-faulted : (s : State) → Un (faulted s)
  un-faulted (Committing made) = refl
  un-faulted s = refl

  un-saw : (s : State) (c : Option (List ℕ)) → Un (saw j s c)
  un-saw Looking c = un-looked c
  un-saw (Testing r x xs ls) c = un-tested r x xs ls c
  un-saw (Loading made x left) c = un-loaded made x left c (x.by c)
  un-saw Checking c = refl
  un-saw s c = refl

  un-long : (s : State) (m : ℕ) → Un (too_long j s m)
  un-long Looking m = refl
  un-long (Testing r x xs ls) m = refl
  un-long (Loading made x left) m = un-undoing (prepare_of j) [] (all_of j) (Answer (Refused (TooLarge x.name m))) refl
  un-long s m = refl

  un-asking : (o : Option ℤ) → Un (asking o)
  un-asking None = refl
  un-asking (Some time) = refl

  un-went : (s : State) (b : Bool) → IsPlain s → Un s → Un (went_on j s b)
  un-went Seizing true plain t = un-asking j.time
  un-went Seizing false plain t = refl
  un-went (Timing time) b plain t = refl
  un-went (Undoing r m ns ls th) b plain t = un-undoing r ns ls th t
  un-went (Placing r x xs ls th) b plain t = un-placing r xs ls th t
  un-went (Removing r x xs ls th) b plain t = t
  un-went (Extending r x xs ls th) b plain t = t
  un-went (Discarding r x xs ls th) b plain t = un-placing r xs ls th t
  un-went (Unlocking r m ns th) b plain t = un-unlocking r ns th t
  un-went (Erasing r GoOn) b plain t = refl
  un-went (Erasing r (Answer why)) b plain t = t
  un-went (Clearing found) b plain t = un-mended found j.edits
  un-went Preparing b plain t = refl
  un-went Publishing true plain t = un-locking [] (edits_of j)
  un-went Publishing false plain t = refl
  un-went (Locking ls e left) true plain t = un-locking (ls ++ (e.name ∷ [])) left
  un-went (Locking ls e left) false plain t = un-undoing (prepare_of j) [] ls (Answer (Refused (Busy e.name))) refl
  un-went (Staging ns made x left) b plain t = un-staging (ns ++ (x.edit.name ∷ [])) made left
  un-went (Deciding made) b plain t = refl
  un-went (Committing made) b plain t = absurd plain
  un-went (Releasing why) b plain t = t
  un-went s b plain t = refl

  un-replied : (s : State) (reply : Reply) → IsPlain s → Un s → Un (after_reply j s reply)
  un-replied s (Went b) plain t = un-went s b plain t
  un-replied s (Saw c) plain t = un-saw s c
  un-replied s (Long m) plain t = un-long s m
  un-replied s Short plain t = un-wanted s t
  un-replied s Fault plain t = un-faulted s

own-go : (j : Job) (r : Record) → is_go r ≡ true → r.token ≡ j.token → is_own_go j (Some r) ≡ true
own-go j r go t = let same : (r.token == j.token) ≡ true = rw t (grind (arith, common_steps)) in rw (go, same) refl

of-go : (j : Job) (d : Disk) (r : Record) (failed : Bool) → record_in (d.files (new_name j.actor)) ≡ Some r → is_go r ≡ true → r.token ≡ j.token
    → is_decision j (event.Publish (new_name j.actor) (record_name j.actor) true failed) d ≡ true
of-go j d r failed e go t =
    let own : is_own_go j (record_in (d.files (new_name j.actor))) ≡ true = ap (is_own_go j) e ∙ own-go j r go t in
    rw (same_refl (new_name j.actor), same_refl (record_name j.actor), own) refl

module _ (j : Job) (job : IsJob j) (d : Disk) (sound : IsSound j.actor d) where
  committing : (made : List Made) {e : Event} → IsOf (ToPublish (new_name j.actor) (record_name j.actor)) e → Knows j (Committing made) d
      → is_done (after_reply j (Committing made) (reply e)) ≡ true → is_decision j e d ≡ true
  committing made (publishes {done = true} {failed = true}) k h = absurd (cc)
  committing made (publishes {done = false} {failed = true}) k h = absurd (cc)
  committing made (publishes {done = false} {failed = false}) k h = absurd (cc)
  committing made (publishes {done = true} {failed = false}) k h =
      of-go j d (go_of j made) false (new_go j job d (settled_files j.actor d) (settled_locks j.actor d) (λ m. refl) (λ m. refl) sound made k) refl refl

  -- the call that leads there is the decision
  pub only_decision : (s : State) (e : Event) → IsNext (next j s) e → Knows j s d → is_done s ≡ false → is_done (after_reply j s (reply e)) ≡ true → is_decision j e d ≡ true
  only_decision (Committing made) e is k un h = committing made is k h
  only_decision s e is k un h = let y : is_done (after_reply j s (reply e)) ≡ false = un-replied j s (reply e) tt un in absurd (cc)
