-- How many decisions a run holds, by its state.
use Rattle.std.proofs.Common.{◌≡◌, ◌≢◌, ◌⊎◌, ℕ, Bool, true, false, ◌&&◌, ◌==◌, List, [], ◌∷◌, Option, Some, None, if◌then◌else◌, refl, ap, sym, subst, inl, inr, ◌∙◌, arith}
use Rattle.std.proofs.lemmas.Bool.{cases_Bool}
use Rattle.std.proofs.lemmas.Grind.{common_steps}
use Rattle.std.specs.Str.{bytes_eq}
use Rattle.commit_record.specs.Format.{written}
use Rattle.commit_record.specs.declared.record.Record.{Record}
use Rattle.commit_record.specs.declared.way.Way.{Way}
use Rattle.commit_record.specs.declared.way.Way.TheVariants.{Replace, Remove, Extend}
use Rattle.host_port.specs.declared.event.Event.{Event}
use Rattle.host_port.specs.declared.event.Event.TheVariants as event
use Rattle.host_port.specs.declared.event.Seen.TheVariants as seen
use Rattle.host_port.specs.Disk.{Disk, after}
use Rattle.host_port.specs.Ran.{Agrees}
use Rattle.commit_machine.specs.Names.{record_name, new_name, staged_name}
use Rattle.commit_machine.specs.Records.{record_in, is_go, names_of}
use Rattle.commit_machine.specs.Items.{Item, found_items, made_items}
use Rattle.commit_machine.specs.Jobs.{Ending, Done, Recovered, Refused, Failed, NoMemory, Found, Busy, TooLarge, Outcome, Puts, Edit, Job, Made, IsJob, edits_of, all_of, prepare_of, go_of}
use Rattle.commit_machine.specs.Machine.{Then, GoOn, Answer, State, Seizing, Timing, Looking, Undoing, Placing, Testing, Removing, Extending, Discarding, Unlocking, Erasing, Clearing, Preparing, Publishing, Locking, Loading, Staging, Deciding, Committing, Checking, Releasing, Ended, ToLoad, ToPublish, after_reply, undoing, placing, unlocking, locking, loaded, loading, judged, staging}
use Rattle.commit_machine.specs.Goes.{IsOf, asks, loads, stages, stage_fails, publishes, extends, extend_fails, erases, locks, unlocks, seizes, releases, reply}
use Rattle.commit_machine.specs.Lawful.{HasRight, IsSound}
use Rattle.commit_machine.specs.Due.{settled_files, settled_locks, is_decision}
use Rattle.commit_machine.proofs.standing.Known.{Knows}
use Rattle.commit_machine.proofs.records.Same.{same_refl, same_false}
use Rattle.commit_machine.proofs.records.Names.{staged-new}
use Rattle.commit_machine.proofs.records.InFile.{record_of-written}
use Rattle.std.proofs.Common.{suc, ℤ}
use Rattle.host_port.specs.declared.event.ForeignStep.{ForeignStep}
use Rattle.host_port.specs.Disk.{disk, after_step}
use Rattle.host_port.specs.Own.{own}
use Rattle.host_port.specs.Ran.{Honest}
use Rattle.commit_machine.specs.Jobs.{Passed, Before, After, Unknown, Refusal, seen_files}
use Rattle.commit_machine.specs.Machine.{Reply, Went, Saw, Long, Short, Fault, refused, wanted, next, faulted, saw, too_long, went_on, passed_at, passed_then, passed_ending, removing, extending, tested, place_one, place_known, mended, none_stands, record_seen, looked, asking, is_own_go, passed_by}
use Rattle.commit_machine.specs.Records.{record_of}
use Rattle.commit_machine.specs.Goes.{IsNext, Goes}
use Rattle.commit_machine.specs.Lawful.{IsLawful, OthersAreLawful}
use Rattle.commit_machine.specs.Laws.{IsRun, TellsDecisions, decisions, DecisionsAreTold}
use Rattle.commit_machine.proofs.standing.Lawful.{lawful_keeps}
use Rattle.commit_machine.proofs.standing.Others.{others_knows}
use Rattle.commit_machine.proofs.runs.Moments
use Rattle.commit_machine.proofs.steps.Decision.{new_go}
use Rattle.commit_machine.proofs.standing.Settled.{renamed_to}
use Rattle.commit_machine.proofs.records.Front.{passed-after, passed-before}
use Rattle.std.proofs.Common.{◌++◌}
use Rattle.std.proofs.lemmas.Bool.{or_left}

abbrev pub told_then : Then → ℕ → Type 0
told_then GoOn n = n ≡ 0
told_then (Answer e) n = TellsDecisions e n

-- what stands as the record says how many decisions there were
abbrev pub Looks : Job → Disk → ℕ → Type 0
Looks j d n = ((n ≡ 1) × (passed_by j (d.files (record_name j.actor)) ≡ After)) ⊎ ((n ≡ 0) × (passed_by j (d.files (record_name j.actor)) ≡ Before))

abbrev pub Told : Job → State → Disk → ℕ → Type 0
Told j (Undoing r m ns ls th) d n = (n ≡ 0) × told_then th n
Told j (Placing r x xs ls th) d n = told_then th n
Told j (Removing r x xs ls th) d n = told_then th n
Told j (Extending r x xs ls th) d n = told_then th n
Told j (Discarding r x xs ls th) d n = told_then th n
Told j (Unlocking r m ns th) d n = told_then th n
Told j (Erasing r th) d n = told_then th n
Told j Checking d n = HasRight j.actor d × Looks j d n
Told j (Releasing e) d n = TellsDecisions e n
Told j (Ended e) d n = TellsDecisions e n
Told j s d n = n ≡ 0

-- the states with a decision in flight
abbrev IsPlain : State → Type 0
IsPlain (Committing made) = ⊥
IsPlain Checking = ⊥
IsPlain s = Unit {0}

tells_passed : (e : Ending) (n : ℕ) → TellsDecisions e n → TellsDecisions (Failed (passed_ending e)) n
tells_passed Done n t = t
tells_passed (Recovered found) n t = t
tells_passed (Refused why) n t = t
tells_passed (Failed passed) n t = t
tells_passed NoMemory n t = t

then_passed : (th : Then) (n : ℕ) → told_then th n → TellsDecisions (Failed (passed_then th)) n
then_passed GoOn n t = t
then_passed (Answer e) n t = tells_passed e n t

module _ (j : Job) (d : Disk) (n : ℕ) where
  told_fault : (s : State) → IsPlain s → Told j s d n → TellsDecisions (Failed (passed_at s)) n
  told_fault (Undoing r m ns ls th) plain t = t.0
  told_fault (Placing r x xs ls th) plain t = then_passed th n t
  told_fault (Removing r x xs ls th) plain t = then_passed th n t
  told_fault (Extending r x xs ls th) plain t = then_passed th n t
  told_fault (Discarding r x xs ls th) plain t = then_passed th n t
  told_fault (Unlocking r m ns th) plain t = then_passed th n t
  told_fault (Erasing r th) plain t = then_passed th n t
  told_fault (Releasing e) plain t = tells_passed e n t
  told_fault (Ended e) plain t = tells_passed e n t
  told_fault (Committing made) plain t = absurd plain
  told_fault Checking plain t = absurd plain
  told_fault s plain t = t

  told_faulted : (s : State) → IsPlain s → Told j s d n → Told j (faulted s) d n
  told_faulted (Committing made) plain t = absurd plain
  told_faulted s plain t = told_fault s plain t

  told_unlocking : (r : Record) (ls : List (List ℕ)) (th : Then) → told_then th n → Told j (unlocking r ls th) d n
  told_unlocking r [] th t = t
  told_unlocking r (m ∷ ms) th t = t

  told_undoing : (r : Record) (ns ls : List (List ℕ)) (th : Then) → n ≡ 0 → told_then th n → Told j (undoing r ns ls th) d n
  told_undoing r [] ls th z t = told_unlocking r ls th t
  told_undoing r (m ∷ ns) ls th z t = (z, t)

  told_removing : (r : Record) (x : Item) (xs : List Item) (ls : List (List ℕ)) (th : Then) → told_then th n → Told j (removing r x xs ls th) d n
  told_removing r x xs ls GoOn t = t
  told_removing r x xs ls (Answer e) t = t

  told_extending : (r : Record) (x : Item) (xs : List Item) (ls : List (List ℕ)) (th : Then) → told_then th n → Told j (extending r x xs ls th) d n
  told_extending r x xs ls GoOn t = t
  told_extending r x xs ls (Answer e) t = t

  told_place_one : (way : Way) (r : Record) (x : Item) (xs : List Item) (ls : List (List ℕ)) (th : Then) → told_then th n → Told j (place_one way r x xs ls th) d n
  told_place_one Replace r x xs ls th t = t
  told_place_one Remove r x xs ls th t = told_removing r x xs ls th t
  told_place_one (Extend at) r x xs ls th t = told_extending r x xs ls th t

  told_placing : (r : Record) (xs : List Item) (ls : List (List ℕ)) (th : Then) → told_then th n → Told j (placing r xs ls th) d n
  told_placing r [] ls th t = told_unlocking r ls th t
  told_placing r (x ∷ xs) ls th t = told_place_one x.way r x xs ls th t

  told_staging : (ns : List (List ℕ)) (made left : List Made) → n ≡ 0 → Told j (staging ns made left) d n
  told_staging ns made [] t = t
  told_staging ns made (x ∷ left) t = t

  told_judged : (made : List Made) (o : Option Refusal) → n ≡ 0 → Told j (judged j made o) d n
  told_judged made None t = told_staging [] made made t
  told_judged made (Some why) t = told_undoing (prepare_of j) [] (all_of j) (Answer (Refused why)) t t

  told_loading : (made : List Made) (left : List Edit) → n ≡ 0 → Told j (loading j made left) d n
  told_loading made [] t = told_judged made (j.refusal (seen_files made)) t
  told_loading made (e ∷ left) t = t

  told_locking : (ls : List (List ℕ)) (left : List Edit) → n ≡ 0 → Told j (locking j ls left) d n
  told_locking ls [] t = told_loading [] (edits_of j) t
  told_locking ls (e ∷ left) t = t

  told_mending : (r : Record) (b : Bool) → n ≡ 0 → Told j (if b then placing r (found_items r) (names_of r) GoOn else undoing r (names_of r) (names_of r) GoOn) d n
  told_mending r true t = told_placing r (found_items r) (names_of r) GoOn t
  told_mending r false t = told_undoing r (names_of r) (names_of r) GoOn t t

  told_record : (o : Option Record) → n ≡ 0 → Told j (record_seen o) d n
  told_record None t = t
  told_record (Some r) t = told_mending r (is_go r) t

  told_none : (o : Option (List Edit)) → n ≡ 0 → Told j (none_stands o) d n
  told_none None t = t
  told_none (Some es) t = t

  told_mended : (found : Found) (o : Option (List Edit)) → n ≡ 0 → Told j (mended o found) d n
  told_mended found None t = t
  told_mended found (Some es) t = t

  told_known : (way : Way) (r : Record) (x : Item) (xs : List Item) (ls : List (List ℕ)) → n ≡ 0 → Told j (place_known way r x xs ls GoOn) d n
  told_known Replace r x xs ls t = t
  told_known Remove r x xs ls t = t
  told_known (Extend at) r x xs ls t = t

  told_tested : (r : Record) (x : Item) (xs : List Item) (ls : List (List ℕ)) (c : Option (List ℕ)) → n ≡ 0 → Told j (tested r x xs ls c) d n
  told_tested r x xs ls None t = told_placing r xs ls GoOn t
  told_tested r x xs ls (Some bytes) t = told_known x.way r (record x { staged = Some bytes }) xs ls t

  told_looked : (c : Option (List ℕ)) → n ≡ 0 → Told j (looked j c) d n
  told_looked None t = told_none j.edits t
  told_looked (Some bytes) t = told_record (record_of bytes) t

  told_loaded : (made : List Made) (x : Edit) (left : List Edit) (c : Option (List ℕ)) (v : Outcome) → n ≡ 0 → Told j (loaded j made x left c v) d n
  told_loaded made x left c (Puts way content) t = told_loading _ left t

  told_refused : (s : State) → Told j s d n → Told j (refused j s) d n
  told_refused (Undoing r m ns ls GoOn) t = t.0
  told_refused (Undoing r m ns ls (Answer a)) t = t
  told_refused (Placing r x xs ls GoOn) t = t
  told_refused (Placing r x xs ls (Answer a)) t = t
  told_refused (Removing r x xs ls GoOn) t = t
  told_refused (Extending r x xs ls GoOn) t = t
  told_refused (Removing r x xs ls (Answer a)) t = t
  told_refused (Extending r x xs ls (Answer a)) t = t
  told_refused (Discarding r x xs ls GoOn) t = t
  told_refused (Discarding r x xs ls (Answer a)) t = t
  told_refused (Unlocking r m ns GoOn) t = t
  told_refused (Unlocking r m ns (Answer a)) t = t
  told_refused (Erasing r GoOn) t = t
  told_refused (Erasing r (Answer a)) t = t
  told_refused (Locking ls e left) t = told_undoing (prepare_of j) [] ls (Answer NoMemory) t t
  told_refused (Loading made e left) t = told_undoing (prepare_of j) [] (all_of j) (Answer NoMemory) t t
  told_refused (Staging ns made x left) t = told_undoing (prepare_of j) ns (all_of j) (Answer NoMemory) t t
  told_refused (Deciding made) t = told_undoing (prepare_of j) (all_of j) (all_of j) (Answer NoMemory) t t
  told_refused (Committing made) t = told_undoing (prepare_of j) (all_of j) (all_of j) (Answer NoMemory) t t
  told_refused (Releasing a) t = t
  told_refused s t = t

  told_wanted : (s : State) → IsPlain s → Told j s d n → Told j (wanted j s) d n
  told_wanted Checking plain t = absurd plain
  told_wanted s plain t = told_refused s t

  told_saw : (s : State) (c : Option (List ℕ)) → IsPlain s → Told j s d n → Told j (saw j s c) d n
  told_saw Looking c plain t = told_looked c t
  told_saw (Testing r x xs ls) c plain t = told_tested r x xs ls c t
  told_saw (Loading made x left) c plain t = told_loaded made x left c (x.by c) t
  told_saw Checking c plain t = absurd plain
  told_saw s c plain t = told_fault s plain t

  told_long : (s : State) (m : ℕ) → IsPlain s → Told j s d n → Told j (too_long j s m) d n
  told_long Looking m plain t = t
  told_long (Testing r x xs ls) m plain t = t
  told_long (Loading made x left) m plain t = told_undoing (prepare_of j) [] (all_of j) (Answer (Refused (TooLarge x.name m))) t t
  told_long s m plain t = told_fault s plain t

  told_asking : (o : Option ℤ) → n ≡ 0 → Told j (asking o) d n
  told_asking None t = t
  told_asking (Some time) t = t

  told_went : (s : State) (b : Bool) → IsPlain s → Told j s d n → Told j (went_on j s b) d n
  told_went Seizing true plain t = told_asking j.time t
  told_went Seizing false plain t = t
  told_went (Timing time) b plain t = t
  told_went (Undoing r m ns ls th) b plain t = told_undoing r ns ls th t.0 t.1
  told_went (Placing r x xs ls th) b plain t = told_placing r xs ls th t
  told_went (Removing r x xs ls th) b plain t = t
  told_went (Extending r x xs ls th) b plain t = t
  told_went (Discarding r x xs ls th) b plain t = told_placing r xs ls th t
  told_went (Unlocking r m ns th) b plain t = told_unlocking r ns th t
  told_went (Erasing r GoOn) b plain t = t
  told_went (Erasing r (Answer why)) b plain t = t
  told_went (Clearing found) b plain t = told_mended found j.edits t
  told_went Preparing b plain t = t
  told_went Publishing true plain t = told_locking [] (edits_of j) t
  told_went Publishing false plain t = t
  told_went (Locking ls e left) true plain t = told_locking (ls ++ (e.name ∷ [])) left t
  told_went (Locking ls e left) false plain t = told_undoing (prepare_of j) [] ls (Answer (Refused (Busy e.name))) t t
  told_went (Staging ns made x left) b plain t = told_staging (ns ++ (x.edit.name ∷ [])) made left t
  told_went (Deciding made) b plain t = t
  told_went (Committing made) b plain t = absurd plain
  told_went (Releasing why) b plain t = t
  told_went s b plain t = told_fault s plain t

  told_reply : (s : State) (reply : Reply) → IsPlain s → Told j s d n → Told j (after_reply j s reply) d n
  told_reply s (Went b) plain t = told_went s b plain t
  told_reply s (Saw c) plain t = told_saw s c plain t
  told_reply s (Long m) plain t = told_long s m plain t
  told_reply s Short plain t = told_wanted s plain t
  told_reply s Fault plain t = told_faulted s plain t

told_any : (j : Job) (d d' : Disk) (n : ℕ) (s : State) → IsPlain s → Told j s d n → Told j s d' n
told_any j d d' n (Committing made) plain t = absurd plain
told_any j d d' n Checking plain t = absurd plain
told_any j d d' n (Undoing r m ns ls th) plain t = t
told_any j d d' n (Placing r x xs ls th) plain t = t
told_any j d d' n (Removing r x xs ls th) plain t = t
told_any j d d' n (Extending r x xs ls th) plain t = t
told_any j d d' n (Discarding r x xs ls th) plain t = t
told_any j d d' n (Unlocking r m ns th) plain t = t
told_any j d d' n (Erasing r th) plain t = t
told_any j d d' n (Releasing e) plain t = t
told_any j d d' n (Ended e) plain t = t
told_any j d d' n s plain t = t

-- a publication from another name, or of a record that isn't the decision
from_other : (j : Job) (d : Disk) (from to : List ℕ) (failed : Bool) → from ≢ new_name j.actor → is_decision j (event.Publish from to true failed) d ≡ false
from_other j d from to failed ne = rw (same_false from (new_name j.actor) ne) refl

not_of_go : (j : Job) (d : Disk) (r : Record) (from to : List ℕ) (failed : Bool) → record_in (d.files (new_name j.actor)) ≡ Some r → is_go r ≡ false
    → is_decision j (event.Publish from to true failed) d ≡ false
not_of_go j d r from to failed e go = rw (e, go) (elim (cases_Bool (bytes_eq from (new_name j.actor) && bytes_eq to (record_name j.actor))) [ inl y ↦ rw y refl | inr nay ↦ rw nay refl ])

own_go : (j : Job) (r : Record) → is_go r ≡ true → r.token ≡ j.token → is_own_go j (Some r) ≡ true
own_go j r go t = let same : (r.token == j.token) ≡ true = rw t (grind (arith, common_steps)) in rw (go, same) refl

of_go : (j : Job) (d : Disk) (r : Record) (failed : Bool) → record_in (d.files (new_name j.actor)) ≡ Some r → is_go r ≡ true → r.token ≡ j.token
    → is_decision j (event.Publish (new_name j.actor) (record_name j.actor) true failed) d ≡ true
of_go j d r failed e go t =
    let own : is_own_go j (record_in (d.files (new_name j.actor))) ≡ true = ap (is_own_go j) e ∙ own_go j r go t in
    rw (same_refl (new_name j.actor), same_refl (record_name j.actor), own) refl

module _ (j : Job) (job : IsJob j) (d : Disk) where
  new_prepare : Knows j Publishing d → record_in (d.files (new_name j.actor)) ≡ Some (prepare_of j)
  new_prepare k = ap record_in (k.0.new (written (prepare_of j)) refl) ∙ record_of-written (written (prepare_of j)) (prepare_of j) k.1

  -- no other state makes a decision
  plain_event : (s : State) (e : Event) → IsPlain s → IsNext (next j s) e → Knows j s d → is_decision j e d ≡ false
  plain_event Seizing _ plain seizes k = refl
  plain_event (Timing time) _ plain asks k = refl
  plain_event Looking _ plain loads k = refl
  plain_event (Undoing r m ns ls th) _ plain erases k = refl
  plain_event (Placing r x xs ls th) _ plain (publishes {done = true} {failed = failed}) k = from_other j d (staged_name r.token x.name) x.name failed (staged-new r.token x.name j.actor)
  plain_event (Placing r x xs ls th) _ plain (publishes {done = false} {failed = failed}) k = refl
  plain_event (Testing r x xs ls) _ plain loads k = refl
  plain_event (Removing r x xs ls th) _ plain erases k = refl
  plain_event (Extending r x xs ls th) _ plain extends k = refl
  plain_event (Extending r x xs ls th) _ plain extend_fails k = refl
  plain_event (Discarding r x xs ls th) _ plain erases k = refl
  plain_event (Unlocking r m ns th) _ plain unlocks k = refl
  plain_event (Erasing r th) _ plain erases k = refl
  plain_event (Clearing found) _ plain erases k = refl
  plain_event Preparing _ plain stages k = refl
  plain_event Preparing _ plain stage_fails k = refl
  plain_event Publishing _ plain (publishes {done = true} {failed = failed}) k = not_of_go j d (prepare_of j) (new_name j.actor) (record_name j.actor) failed (new_prepare k) refl
  plain_event Publishing _ plain (publishes {done = false} {failed = failed}) k = refl
  plain_event (Locking ls x left) _ plain locks k = refl
  plain_event (Loading made x left) _ plain loads k = refl
  plain_event (Staging ns made x left) _ plain stages k = refl
  plain_event (Staging ns made x left) _ plain stage_fails k = refl
  plain_event (Deciding made) _ plain stages k = refl
  plain_event (Deciding made) _ plain stage_fails k = refl
  plain_event (Committing made) e plain is k = absurd plain
  plain_event Checking e plain is k = absurd plain
  plain_event (Releasing a) _ plain releases k = refl
  plain_event (Ended a) e plain is k = absurd is

abbrev counted : Job → Event → Disk → ℕ → ℕ
counted j e d n = if is_decision j e d then suc n else n

module _ (j : Job) (job : IsJob j) (d : Disk) (n : ℕ) (sound : IsSound j.actor d) where
  plain_told : (s : State) (e : Event) → IsPlain s → IsNext (next j s) e → Knows j s d → Told j s d n → Told j (after_reply j s (reply e)) (after d e) (if is_decision j e d then suc n else n)
  plain_told s e plain is k t =
      let same : n ≡ (if is_decision j e d then suc n else n) = ap (λ (b : Bool). if b then suc n else n) (sym (plain_event j job d s e plain is k)) in
      subst (Told j (after_reply j s (reply e)) (after d e)) same (told_reply j (after d e) n s (reply e) plain (told_any j d (after d e) n s plain t))

  committing_told : (made : List Made) {e : Event} → IsOf (ToPublish (new_name j.actor) (record_name j.actor)) e → Knows j (Committing made) d → n ≡ 0
      → Told j (after_reply j (Committing made) (reply e)) (after d e) (if is_decision j e d then suc n else n)
  committing_told made (publishes {done = true} {failed = true}) k t =
      let one : (if is_decision j (event.Publish (new_name j.actor) (record_name j.actor) true true) d then suc n else n) ≡ 1 =
      ap (λ (b : Bool). if b then suc n else n)
      (of_go j d (go_of j made) true (new_go j job d (settled_files j.actor d) (settled_locks j.actor d) (λ m. refl) (λ m. refl) sound made k) refl refl) ∙ ap suc t in
      (k.0.closing.right, inl (one, passed-after j made _ (renamed_to d.files (new_name j.actor) (record_name j.actor) ∙ k.2)))
  committing_told made (publishes {done = false} {failed = true}) k t = (k.0.closing.right, inr (t, passed-before j (d.files (record_name j.actor)) k.0.closing.stands))
  committing_told made (publishes {done = false} {failed = false}) k t = t
  committing_told made (publishes {done = true} {failed = false}) k t =
      let one : (if is_decision j (event.Publish (new_name j.actor) (record_name j.actor) true false) d then suc n else n) ≡ 1 =
      ap (λ (b : Bool). if b then suc n else n)
      (of_go j d (go_of j made) false (new_go j job d (settled_files j.actor d) (settled_locks j.actor d) (λ m. refl) (λ m. refl) sound made k) refl refl) ∙ ap suc t in
      told_placing j (after d (event.Publish (new_name j.actor) (record_name j.actor) true false))
      (if is_decision j (event.Publish (new_name j.actor) (record_name j.actor) true false) d then suc n else n) (go_of j made) (made_items j made) (all_of j) (Answer Done) one

  by_record : (c : Option (List ℕ)) → c ≡ d.files (record_name j.actor) → Looks j d n → TellsDecisions (Failed (passed_by j c)) n
  by_record c is (inl p) = subst (λ (w : Passed). TellsDecisions (Failed w) n) (sym (ap (passed_by j) is ∙ p.1)) p.0
  by_record c is (inr p) = subst (λ (w : Passed). TellsDecisions (Failed w) n) (sym (ap (passed_by j) is ∙ p.1)) p.0

  unknown : Looks j d n → (n ≡ 0) ⊎ (n ≡ 1)
  unknown (inl p) = inr p.0
  unknown (inr p) = inl p.0

  checking_told : {e : Event} → IsOf (ToLoad (record_name j.actor)) e → Agrees d e → Told j Checking d n
      → Told j (after_reply j Checking (reply e)) (after d e) (if is_decision j e d then suc n else n)
  checking_told (loads {s = seen.Bytes c held}) agrees t = by_record c agrees.0 t.1
  checking_told (loads {s = seen.TooLarge m}) agrees t = unknown t.1
  checking_told (loads {s = seen.Failed}) agrees t = unknown t.1
  checking_told (loads {s = seen.Memory}) agrees t = unknown t.1

  own_told : (s : State) (e : Event) → IsNext (next j s) e → Agrees d e → Knows j s d → Told j s d n → Told j (after_reply j s (reply e)) (after d e) (if is_decision j e d then suc n else n)
  own_told (Committing made) e is agrees k t = committing_told made is k t
  own_told Checking e is agrees k t = checking_told is agrees t
  own_told s e is agrees k t = plain_told s e tt is k t

  others_told : (f : ForeignStep) → IsLawful j.actor j.token d f → (s : State) → Told j s d n → Told j s (after_step d f) n
  others_told f law Checking t =
      let keep = lawful_keeps j.actor j.token d f law in
      let same : (after_step d f).files (record_name j.actor) ≡ d.files (record_name j.actor) = keep.records (record_name j.actor) t.0 (or_left _ _ (same_refl (record_name j.actor))) in
      let w : passed_by j ((after_step d f).files (record_name j.actor)) ≡ passed_by j (d.files (record_name j.actor)) = ap (passed_by j) same in
      (keep.right t.0, elim t.1 [ inl p ↦ inl (p.0, w ∙ p.1) | inr p ↦ inr (p.0, w ∙ p.1) ])
  others_told f law (Committing made) t = t
  others_told f law s t = told_any j d (after_step d f) n s tt t

told_now : (j : Job) (d : Disk) (n : ℕ) (s now : State) → (now ≡ s) ⊎ (now ≡ refused j s) → Told j s d n → Told j now d n
told_now j d n s now (inl p) t = subst (λ (z : State). Told j z d n) (sym p) t
told_now j d n s now (inr p) t = subst (λ (z : State). Told j z d n) (sym p) (told_refused j d n s t)

module _ (j : Job) (job : IsJob j) where
  all_told : (es : List Event) (s last : State) (d : Disk) (n : ℕ) → IsSound j.actor d → Knows j s d → Told j s d n → Goes j s (own es) last
      → Honest d es → OthersAreLawful j.actor j.token d es → Told j last (disk d es) (decisions j d n es)
  all_told [] s last d n sound k t goes honest lawful = told_now j d n s last (elim goes [ inl p ↦ inl (sym p) | inr p ↦ inr (sym p) ]) t
  all_told (event.Foreign f ∷ es) s last d n sound k t goes honest lawful =
      all_told es s last (after_step d f) n lawful.1 (others_knows j d (after_step d f) (lawful_keeps j.actor j.token d f lawful.0) s k)
      (others_told j job d n sound f lawful.0 s t) goes honest.1 lawful.2
  all_told (e ∷ es) s last d n sound k t goes honest lawful =
      let k' = Moments.known_now j job d s goes.0 goes.1 k in
      let kept = Moments.own_step j job d (settled_files j.actor d) (settled_locks j.actor d) (λ m. refl) (λ m. refl) sound goes.0 e goes.2 honest.0 k' in
      all_told es (after_reply j goes.0 (reply e)) last (after d e) (if is_decision j e d then suc n else n) kept.shows.sound kept.knows
      (own_told j job d n sound goes.0 e goes.2 honest.0 k' (told_now j d n s goes.0 goes.1 t)) goes.3 honest.1 lawful

pub decisions_are_told : DecisionsAreTold
decisions_are_told j d es end run = all_told j run.job es Seizing (Ended end) d 0 run.sound run.fresh refl run.goes run.honest run.lawful

tells_few : (e : Ending) (n : ℕ) → TellsDecisions e n → (n ≡ 0) ⊎ (n ≡ 1)
tells_few Done n t = inr t
tells_few (Recovered found) n t = inl t
tells_few (Refused why) n t = inl t
tells_few (Failed Before) n t = inl t
tells_few (Failed After) n t = inr t
tells_few (Failed Unknown) n t = t
tells_few NoMemory n t = inl t

then_few : (th : Then) (n : ℕ) → told_then th n → (n ≡ 0) ⊎ (n ≡ 1)
then_few GoOn n t = inl t
then_few (Answer e) n t = tells_few e n t

told_few : (j : Job) (s : State) (d : Disk) (n : ℕ) → Told j s d n → (n ≡ 0) ⊎ (n ≡ 1)
told_few j (Undoing r m ns ls th) d n t = inl t.0
told_few j (Placing r x xs ls th) d n t = then_few th n t
told_few j (Removing r x xs ls th) d n t = then_few th n t
told_few j (Extending r x xs ls th) d n t = then_few th n t
told_few j (Discarding r x xs ls th) d n t = then_few th n t
told_few j (Unlocking r m ns th) d n t = then_few th n t
told_few j (Erasing r th) d n t = then_few th n t
told_few j Checking d n t = elim t.1 [ inl p ↦ inr p.0 | inr p ↦ inl p.0 ]
told_few j (Releasing e) d n t = tells_few e n t
told_few j (Ended e) d n t = tells_few e n t
told_few j s d n t = inl t

-- a run holds one decision at most
pub few_decisions : (j : Job) (d : Disk) (es : List Event) (last : State) → IsRun j d es last → (decisions j d 0 es ≡ 0) ⊎ (decisions j d 0 es ≡ 1)
few_decisions j d es last run = told_few j last (disk d es) _ (all_told j run.job es Seizing last d 0 run.sound run.fresh refl run.goes run.honest run.lawful)
