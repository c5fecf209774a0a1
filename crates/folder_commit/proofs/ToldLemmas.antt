-- A commit answers a fault exactly where a call failed.
use Rattle.std.proofs.Common.{◌≡◌, ◌⊎◌, ℕ, ℤ, Bool, true, false, List, [], ◌∷◌, Option, Some, None, ◌||◌, refl, ap, sym, subst, inl, inr, ◌∙◌}
use Rattle.std.specs.List.{list_any}
use Rattle.std.specs.declared.result.Result.{Result}
use Rattle.std.specs.declared.result.Result.TheVariants.{Ok, Err}
use Rattle.std.proofs.lemmas.Bool.{cases_Bool}
use Rattle.host_port.specs.declared.event.Event.{Event}
use Rattle.host_port.specs.declared.event.Event.TheVariants as event
use Rattle.host_port.specs.declared.event.Seen.{Seen}
use Rattle.host_port.specs.declared.event.Seen.TheVariants as seen
use Rattle.commit_record.specs.Format.{written}
use Rattle.commit_record.specs.declared.record.Record.{Record}
use Rattle.commit_record.specs.declared.way.Way.{Way}
use Rattle.commit_record.specs.declared.way.Way.TheVariants.{Replace, Remove, Extend}
use Rattle.folder_change.specs.Outcomes.{bytes_of}
use Rattle.commit_machine.specs.Names.{record_name, new_name, right_name, staged_name}
use Rattle.commit_machine.specs.Records.{record_of, is_go, names_of}
use Rattle.commit_machine.specs.Items.{Item, found_items, made_items}
use Rattle.commit_machine.specs.Jobs.{Found, Refusal, Busy, TooLarge, Ending, Done, Refused, Failed, NoMemory, Outcome, Puts, Edit, Job, Made, all_of, edits_of, prepare_of, go_of, seen_files}
use Rattle.commit_machine.specs.Machine.{State, Seizing, Timing, Looking, Undoing, Placing, Testing, Removing, Extending, Discarding, Unlocking, Erasing, Clearing, Preparing, Publishing, Locking, Loading, Staging, Deciding, Committing, Checking, Releasing, Ended, Then, GoOn, Answer, asking, unlocking, undoing, removing, extending, stay, place_one, place_known, placing, staging, mended, none_stands, mending, record_seen, refusing, judged, loading, locking, loaded, next, refused, after_reply}
use Rattle.commit_machine.specs.Goes.{IsNext, reply, Goes}
use Rattle.commit_machine.specs.Restraints.{is_failed}
use Rattle.commit_driver.specs.declared.step.Passed.TheVariants as passed
use Rattle.folder_commit.specs.declared.error.CommitError.{CommitError}
use Rattle.folder_commit.specs.declared.error.CommitError.TheVariants as error
use Rattle.folder_commit.specs.Ends.{AnswersAs, Commits}
use Rattle.folder_commit.specs.Told.{is_fault, TellsFaults}
use Rattle.folder_commit.proofs.CleanLemmas.{ask-is, extend-is, erase-is, publish-is, lock-is, unlock-is, seize-is, load-is, release-is, stage-is}

-- the end of a call that failed
abbrev pub is_failed_end : Ending → Bool
is_failed_end (Failed passed) = true
is_failed_end e = false

-- a call has failed before this state
abbrev pub is_bad : State → Bool
is_bad Checking = true
is_bad (Releasing e) = is_failed_end e
is_bad (Ended e) = is_failed_end e
is_bad s = false

abbrev pub CleanThen : Then → Type 0
CleanThen GoOn = Unit {0}
CleanThen (Answer e) = is_failed_end e ≡ false

-- what a record is closed for is no failure
abbrev pub Clean : State → Type 0
Clean (Undoing r n ns ls th) = CleanThen th
Clean (Placing r x xs ls th) = CleanThen th
Clean (Removing r x xs ls th) = CleanThen th
Clean (Extending r x xs ls th) = CleanThen th
Clean (Discarding r x xs ls th) = CleanThen th
Clean (Unlocking r n ns th) = CleanThen th
Clean (Erasing r th) = CleanThen th
Clean s = Unit {0}

-- no call has failed before this state, nor will it be told of one that hasn't
abbrev Good : State → Type 0
Good s = Clean s × (is_bad s ≡ false)

good_unlocking : (r : Record) (ls : List (List ℕ)) (th : Then) → CleanThen th → Good (unlocking r ls th)
good_unlocking r [] th h = (h, refl)
good_unlocking r (l ∷ ls) th h = (h, refl)

good_undoing : (r : Record) (ns ls : List (List ℕ)) (th : Then) → CleanThen th → Good (undoing r ns ls th)
good_undoing r [] ls th h = good_unlocking r ls th h
good_undoing r (n ∷ ns) ls th h = (h, refl)

good_removing : (r : Record) (x : Item) (xs : List Item) (ls : List (List ℕ)) (th : Then) → CleanThen th → Good (removing r x xs ls th)
good_removing r x xs ls GoOn h = (tt, refl)
good_removing r x xs ls (Answer e) h = (h, refl)

good_extending : (r : Record) (x : Item) (xs : List Item) (ls : List (List ℕ)) (th : Then) → CleanThen th → Good (extending r x xs ls th)
good_extending r x xs ls GoOn h = (tt, refl)
good_extending r x xs ls (Answer e) h = (h, refl)

good_known : (way : Way) (r : Record) (x : Item) (xs : List Item) (ls : List (List ℕ)) → Good (place_known way r x xs ls GoOn)
good_known Replace r x xs ls = (tt, refl)
good_known Remove r x xs ls = (tt, refl)
good_known (Extend at) r x xs ls = (tt, refl)

good_one : (way : Way) (r : Record) (x : Item) (xs : List Item) (ls : List (List ℕ)) (th : Then) → CleanThen th → Good (place_one way r x xs ls th)
good_one Replace r x xs ls th h = (h, refl)
good_one Remove r x xs ls th h = good_removing r x xs ls th h
good_one (Extend at) r x xs ls th h = good_extending r x xs ls th h

good_placing : (r : Record) (xs : List Item) (ls : List (List ℕ)) (th : Then) → CleanThen th → Good (placing r xs ls th)
good_placing r [] ls th h = good_unlocking r ls th h
good_placing r (x ∷ xs) ls th h = good_one x.way r x xs ls th h

good_mending : (r : Record) → Good (mending r)
good_mending r = elim (cases_Bool (is_go r)) [ inl y ↦ rw y (good_placing r (found_items r) (names_of r) GoOn tt) | inr nay ↦ rw nay (good_undoing r (names_of r) (names_of r) GoOn tt) ]

good_seen : (o : Option Record) → Good (record_seen o)
good_seen None = (tt, refl)
good_seen (Some r) = good_mending r

good_none : (o : Option (List Edit)) → Good (none_stands o)
good_none None = (tt, refl)
good_none (Some es) = (tt, refl)

good_asking : (o : Option ℤ) → Good (asking o)
good_asking None = (tt, refl)
good_asking (Some time) = (tt, refl)

good_mended : (o : Option (List Edit)) (f : Found) → Good (mended o f)
good_mended None f = (tt, refl)
good_mended (Some es) f = (tt, refl)

module _ (j : Job) where
  good_staging : (ns : List (List ℕ)) (done left : List Made) → Good (staging ns done left)
  good_staging ns done [] = (tt, refl)
  good_staging ns done (x ∷ left) = (tt, refl)

  good_refusing : (ns ls : List (List ℕ)) (why : Ending) → is_failed_end why ≡ false → Good (refusing j ns ls why)
  good_refusing ns ls why h = good_undoing (prepare_of j) ns ls (Answer why) h

  good_judged : (done : List Made) (o : Option Refusal) → Good (judged j done o)
  good_judged done None = good_staging [] done done
  good_judged done (Some why) = good_refusing [] (all_of j) (Refused why) refl

  good_loading : (done : List Made) (left : List Edit) → Good (loading j done left)
  good_loading done [] = good_judged done (j.refusal (seen_files done))
  good_loading done (e ∷ left) = (tt, refl)

  good_locking : (ls : List (List ℕ)) (left : List Edit) → Good (locking j ls left)
  good_locking ls [] = good_loading [] (edits_of j)
  good_locking ls (e ∷ left) = (tt, refl)

  good_loaded : (done : List Made) (e : Edit) (left : List Edit) (c : Option (List ℕ)) (o : Outcome) → Good (loaded j done e left c o)
  good_loaded done e left c (Puts way content) = good_loading _ left

  -- running out of memory is no failure
  abbrev pub AsBad : State → State → Type 0
  AsBad s t = Clean t × (is_bad t ≡ is_bad s)

  pub refused_bad : (s : State) → Clean s → AsBad s (refused j s)
  refused_bad Seizing h = (tt, refl)
  refused_bad (Timing time) h = (tt, refl)
  refused_bad Looking h = (tt, refl)
  refused_bad (Undoing r n ns ls GoOn) h = (tt, refl)
  refused_bad (Undoing r n ns ls (Answer e)) h = (h, refl)
  refused_bad (Placing r x xs ls GoOn) h = (tt, refl)
  refused_bad (Placing r x xs ls (Answer e)) h = (h, refl)
  refused_bad (Testing r x xs ls) h = (tt, refl)
  refused_bad (Removing r x xs ls GoOn) h = (tt, refl)
  refused_bad (Extending r x xs ls GoOn) h = (tt, refl)
  refused_bad (Removing r x xs ls (Answer e)) h = (h, refl)
  refused_bad (Extending r x xs ls (Answer e)) h = (h, refl)
  refused_bad (Discarding r x xs ls GoOn) h = (tt, refl)
  refused_bad (Discarding r x xs ls (Answer e)) h = (h, refl)
  refused_bad (Unlocking r n ns GoOn) h = (tt, refl)
  refused_bad (Unlocking r n ns (Answer e)) h = (h, refl)
  refused_bad (Erasing r GoOn) h = (tt, refl)
  refused_bad (Erasing r (Answer e)) h = (h, refl)
  refused_bad (Clearing found) h = (tt, refl)
  refused_bad Preparing h = (tt, refl)
  refused_bad Publishing h = (tt, refl)
  refused_bad (Locking ls e left) h = good_refusing [] ls NoMemory refl
  refused_bad (Loading done e left) h = good_refusing [] (all_of j) NoMemory refl
  refused_bad (Staging ns done x left) h = good_refusing ns (all_of j) NoMemory refl
  refused_bad (Deciding done) h = good_refusing (all_of j) (all_of j) NoMemory refl
  refused_bad (Committing done) h = good_refusing (all_of j) (all_of j) NoMemory refl
  refused_bad Checking h = (tt, refl)
  refused_bad (Releasing e) h = (tt, refl)
  refused_bad (Ended e) h = (tt, refl)

  -- after an event a call has failed if one had before, or if this one did
  abbrev pub Steps : State → Event → Type 0
  Steps s e = Clean (after_reply j s (reply e)) × (is_bad (after_reply j s (reply e)) ≡ (is_bad s || is_failed e))

  undoing-bad : (r : Record) (n : List ℕ) (ns ls : List (List ℕ)) (th : Then) → CleanThen th → (m : List ℕ) (done failed : Bool) → Steps (Undoing r n ns ls th) (event.Erase m done failed)
  undoing-bad r n ns ls th h m done true = (tt, refl)
  undoing-bad r n ns ls th h m done false = good_undoing r ns ls th h

  placing-bad : (r : Record) (x : Item) (xs : List Item) (ls : List (List ℕ)) (th : Then) → CleanThen th → (from to : List ℕ) (done failed : Bool)
      → Steps (Placing r x xs ls th) (event.Publish from to done failed)
  placing-bad r x xs ls th h from to done true = (tt, refl)
  placing-bad r x xs ls th h from to done false = good_placing r xs ls th h

  testing-bad : (r : Record) (x : Item) (xs : List Item) (ls : List (List ℕ)) (m : List ℕ) (s : Seen) → Steps (Testing r x xs ls) (event.Load m s)
  testing-bad r x xs ls m (seen.Bytes None held) = good_placing r xs ls GoOn tt
  testing-bad r x xs ls m (seen.Bytes (Some bytes) held) = good_known x.way r (record x { staged = Some bytes }) xs ls
  testing-bad r x xs ls m (seen.TooLarge k) = (tt, refl)
  testing-bad r x xs ls m seen.Failed = (tt, refl)
  testing-bad r x xs ls m seen.Memory = (tt, refl)

  removing-bad : (r : Record) (x : Item) (xs : List Item) (ls : List (List ℕ)) (th : Then) → CleanThen th → (m : List ℕ) (done failed : Bool)
      → Steps (Removing r x xs ls th) (event.Erase m done failed)
  removing-bad r x xs ls th h m done true = (tt, refl)
  removing-bad r x xs ls th h m done false = (h, refl)

  extending-bad : (r : Record) (x : Item) (xs : List Item) (ls : List (List ℕ)) (th : Then) → CleanThen th
      → (m : List ℕ) (at : ℕ) (tail : List ℕ) (failed : Bool) → Steps (Extending r x xs ls th) (event.Extend m at tail failed)
  extending-bad r x xs ls th h m at tail true = (tt, refl)
  extending-bad r x xs ls th h m at tail false = (h, refl)

  discarding-bad : (r : Record) (x : Item) (xs : List Item) (ls : List (List ℕ)) (th : Then) → CleanThen th → (m : List ℕ) (done failed : Bool)
      → Steps (Discarding r x xs ls th) (event.Erase m done failed)
  discarding-bad r x xs ls th h m done true = (tt, refl)
  discarding-bad r x xs ls th h m done false = good_placing r xs ls th h

  unlocking-bad : (r : Record) (n : List ℕ) (ns : List (List ℕ)) (th : Then) → CleanThen th → (m : List ℕ) (t : ℕ) (done failed : Bool) → Steps (Unlocking r n ns th) (event.Unlock m t done failed)
  unlocking-bad r n ns th h m t done true = (tt, refl)
  unlocking-bad r n ns th h m t done false = good_unlocking r ns th h

  erasing-bad : (r : Record) (th : Then) → CleanThen th → (m : List ℕ) (done failed : Bool) → Steps (Erasing r th) (event.Erase m done failed)
  erasing-bad r th h m done true = (tt, refl)
  erasing-bad r GoOn h m done false = (tt, refl)
  erasing-bad r (Answer e) h m done false = (tt, h)

  looking-bad : (m : List ℕ) (s : Seen) → Steps Looking (event.Load m s)
  looking-bad m (seen.Bytes None held) = good_none j.edits
  looking-bad m (seen.Bytes (Some bytes) held) = good_seen (record_of bytes)
  looking-bad m (seen.TooLarge n) = (tt, refl)
  looking-bad m seen.Failed = (tt, refl)
  looking-bad m seen.Memory = (tt, refl)

  loading-bad : (done : List Made) (x : Edit) (left : List Edit) (m : List ℕ) (s : Seen) → Steps (Loading done x left) (event.Load m s)
  loading-bad done x left m (seen.Bytes c held) = good_loaded done x left c (x.by c)
  loading-bad done x left m (seen.TooLarge n) = good_refusing [] (all_of j) (Refused (TooLarge x.name n)) refl
  loading-bad done x left m seen.Failed = (tt, refl)
  loading-bad done x left m seen.Memory = good_refusing [] (all_of j) NoMemory refl

  checking-bad : (m : List ℕ) (s : Seen) → Steps Checking (event.Load m s)
  checking-bad m (seen.Bytes c held) = (tt, refl)
  checking-bad m (seen.TooLarge n) = (tt, refl)
  checking-bad m seen.Failed = (tt, refl)
  checking-bad m seen.Memory = (tt, refl)

  seizing-bad : (m : List ℕ) (got failed : Bool) → Steps Seizing (event.Seize m got failed)
  seizing-bad m got true = (tt, refl)
  seizing-bad m true false = good_asking j.time
  seizing-bad m false false = (tt, refl)

  locking-bad : (ls : List (List ℕ)) (x : Edit) (left : List Edit) (m : List ℕ) (t : ℕ) (got failed : Bool) → Steps (Locking ls x left) (event.Lock m t got failed)
  locking-bad ls x left m t got true = (tt, refl)
  locking-bad ls x left m t true false = good_locking _ left
  locking-bad ls x left m t false false = good_refusing [] ls (Refused (Busy x.name)) refl

  clearing-bad : (f : Found) (m : List ℕ) (done failed : Bool) → Steps (Clearing f) (event.Erase m done failed)
  clearing-bad f m done true = (tt, refl)
  clearing-bad f m done false = good_mended j.edits f

  preparing-bad : (m : List ℕ) (c : Option (List ℕ)) (failed : Bool) → Steps Preparing (event.Stage m c failed)
  preparing-bad m c true = (tt, refl)
  preparing-bad m c false = (tt, refl)

  publishing-bad : (from to : List ℕ) (done failed : Bool) → Steps Publishing (event.Publish from to done failed)
  publishing-bad from to done true = (tt, refl)
  publishing-bad from to true false = good_locking [] (edits_of j)
  publishing-bad from to false false = (tt, refl)

  staging-bad : (ns : List (List ℕ)) (done : List Made) (x : Made) (left : List Made) (m : List ℕ) (c : Option (List ℕ)) (failed : Bool) → Steps (Staging ns done x left) (event.Stage m c failed)
  staging-bad ns done x left m c true = (tt, refl)
  staging-bad ns done x left m c false = good_staging _ done left

  deciding-bad : (done : List Made) (m : List ℕ) (c : Option (List ℕ)) (failed : Bool) → Steps (Deciding done) (event.Stage m c failed)
  deciding-bad done m c true = (tt, refl)
  deciding-bad done m c false = (tt, refl)

  pub committing-bad : (made : List Made) (from to : List ℕ) (done failed : Bool) → Steps (Committing made) (event.Publish from to done failed)
  committing-bad made from to done true = (tt, refl)
  committing-bad made from to true false = good_placing (go_of j made) (made_items j made) (all_of j) (Answer Done) refl
  committing-bad made from to false false = (tt, refl)

  releasing-bad : (a : Ending) (m : List ℕ) → Steps (Releasing a) (event.Release m)
  releasing-bad a m = (tt, go (is_failed_end a))
    where
      go : (b : Bool) → b ≡ (b || false)
      go true = refl
      go false = refl

  pub step-bad : (s : State) (e : Event) → Clean s → IsNext (next j s) e → Steps s e
  step-bad Seizing e h is = let w = seize-is (right_name j.actor) e is in subst (Steps Seizing) (sym w.2) (seizing-bad (right_name j.actor) w.0 w.1)
  step-bad (Timing time) e h is = subst (Steps (Timing time)) (sym (ask-is time e is)) (tt, refl)
  step-bad Looking e h is = let w = load-is (record_name j.actor) e is in subst (Steps Looking) (sym w.1) (looking-bad (record_name j.actor) w.0)
  step-bad (Undoing r n ns ls th) e h is = let w = erase-is (staged_name r.token n) e is in subst (Steps (Undoing r n ns ls th)) (sym w.2) (undoing-bad r n ns ls th h (staged_name r.token n) w.0 w.1)
  step-bad (Placing r x xs ls th) e h is = let w = publish-is (staged_name r.token x.name) x.name e is in
      subst (Steps (Placing r x xs ls th)) (sym w.2) (placing-bad r x xs ls th h (staged_name r.token x.name) x.name w.0 w.1)
  step-bad (Testing r x xs ls) e h is = let w = load-is (staged_name r.token x.name) e is in subst (Steps (Testing r x xs ls)) (sym w.1) (testing-bad r x xs ls (staged_name r.token x.name) w.0)
  step-bad (Removing r x xs ls th) e h is = let w = erase-is x.name e is in subst (Steps (Removing r x xs ls th)) (sym w.2) (removing-bad r x xs ls th h x.name w.0 w.1)
  step-bad (Extending r x xs ls th) e h is = let w = extend-is x.name (stay x.way) (bytes_of x.staged) e is in
      subst (Steps (Extending r x xs ls th)) (sym w.2) (extending-bad r x xs ls th h x.name (stay x.way) w.0 w.1)
  step-bad (Discarding r x xs ls th) e h is = let w = erase-is (staged_name r.token x.name) e is in
      subst (Steps (Discarding r x xs ls th)) (sym w.2) (discarding-bad r x xs ls th h (staged_name r.token x.name) w.0 w.1)
  step-bad (Unlocking r n ns th) e h is = let w = unlock-is n r.token e is in subst (Steps (Unlocking r n ns th)) (sym w.2) (unlocking-bad r n ns th h n r.token w.0 w.1)
  step-bad (Erasing r th) e h is = let w = erase-is (record_name j.actor) e is in subst (Steps (Erasing r th)) (sym w.2) (erasing-bad r th h (record_name j.actor) w.0 w.1)
  step-bad (Clearing f) e h is = let w = erase-is (new_name j.actor) e is in subst (Steps (Clearing f)) (sym w.2) (clearing-bad f (new_name j.actor) w.0 w.1)
  step-bad Preparing e h is = let w = stage-is (new_name j.actor) (written (prepare_of j)) e is in subst (Steps Preparing) (sym w.2) (preparing-bad (new_name j.actor) w.0 w.1)
  step-bad Publishing e h is = let w = publish-is (new_name j.actor) (record_name j.actor) e is in subst (Steps Publishing) (sym w.2) (publishing-bad (new_name j.actor) (record_name j.actor) w.0 w.1)
  step-bad (Locking ls x left) e h is = let w = lock-is x.name j.token e is in subst (Steps (Locking ls x left)) (sym w.2) (locking-bad ls x left x.name j.token w.0 w.1)
  step-bad (Loading done x left) e h is = let w = load-is x.name e is in subst (Steps (Loading done x left)) (sym w.1) (loading-bad done x left x.name w.0)
  step-bad (Staging ns done x left) e h is = let w = stage-is (staged_name j.token x.edit.name) x.content e is in
      subst (Steps (Staging ns done x left)) (sym w.2) (staging-bad ns done x left (staged_name j.token x.edit.name) w.0 w.1)
  step-bad (Deciding done) e h is = let w = stage-is (new_name j.actor) (written (go_of j done)) e is in subst (Steps (Deciding done)) (sym w.2) (deciding-bad done (new_name j.actor) w.0 w.1)
  step-bad (Committing made) e h is = let w = publish-is (new_name j.actor) (record_name j.actor) e is in
      subst (Steps (Committing made)) (sym w.2) (committing-bad made (new_name j.actor) (record_name j.actor) w.0 w.1)
  step-bad Checking e h is = let w = load-is (record_name j.actor) e is in subst (Steps Checking) (sym w.1) (checking-bad (record_name j.actor) w.0)
  step-bad (Releasing a) e h is = subst (Steps (Releasing a)) (sym (release-is (right_name j.actor) e is)) (releasing-bad a (right_name j.actor))
  step-bad (Ended a) e h is = absurd is

  or_assoc : (a b c : Bool) → ((a || b) || c) ≡ (a || (b || c))
  or_assoc true b c = refl
  or_assoc false b c = refl

  or_false : (a : Bool) → a ≡ (a || false)
  or_false true = refl
  or_false false = refl

  -- the end tells of a failure exactly where there is one
  fails-told : (es : List Event) (s : State) (end : Ending) → Clean s → Goes j s es (Ended end) → is_failed_end end ≡ (is_bad s || list_any is_failed es)
  fails-told [] s end h (inl p) = ap is_bad (sym p) ∙ or_false (is_bad s)
  fails-told [] s end h (inr p) = ap is_bad (sym p) ∙ (refused_bad s h).1 ∙ or_false (is_bad s)
  fails-told (e ∷ es) s end h (now, from, is, more) =
      let at = as_bad from in
      let step = step-bad now e at.0 is in
      fails-told es (after_reply j now (reply e)) end step.0 more
      ∙ ap (λ (b : Bool). b || list_any is_failed es) (step.1 ∙ ap (λ (b : Bool). b || is_failed e) at.1) ∙ or_assoc (is_bad s) (is_failed e) (list_any is_failed es)
    where
      as_bad : ((now ≡ s) ⊎ (now ≡ refused j s)) → AsBad s now
      as_bad (inl p) = subst (AsBad s) (sym p) (h, refl)
      as_bad (inr p) = subst (AsBad s) (sym p) (refused_bad s h)

  pub failed-told : (es : List Event) (end : Ending) → Goes j Seizing es (Ended end) → is_failed_end end ≡ list_any is_failed es
  failed-told es end goes = fails-told es Seizing end tt goes

fault-so : (files : List (List ℕ)) (result : Result Unit CommitError) (end : Ending) → AnswersAs files result end → is_failed_end end ≡ is_fault result
fault-so files (Ok u) end is = ap is_failed_end is
fault-so files (Err (error.Busy name)) end is = ap is_failed_end is
fault-so files (Err error.Record) end is = ap is_failed_end is
fault-so files (Err (error.Changed name at)) end is = ap is_failed_end is
fault-so files (Err (error.TooLarge name n)) end is = ap is_failed_end is
fault-so files (Err (error.Disk passed.Before)) end is = ap is_failed_end is
fault-so files (Err (error.Disk passed.After)) end is = ap is_failed_end is
fault-so files (Err (error.Disk passed.Unknown)) end is = ap is_failed_end is
fault-so files (Err error.Memory) end (inl is) = ap is_failed_end is
fault-so files (Err error.Memory) end (inr is) = ap is_failed_end is.2
fault-so files (Err (error.TooManyNames n)) end is = absurd is

pub tells-faults : (j : Job) (es : List Event) (result : Result Unit CommitError) → Commits j es result → TellsFaults es result
tells-faults j es result h = sym (failed-told j es h.end h.goes) ∙ fault-so (all_of j) result h.end h.is_as
