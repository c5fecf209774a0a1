-- A commit answers that it isn't known whether its decision was passed exactly where its events say so.
use Rattle.std.proofs.Common.{◌≡◌, ◌⊎◌, ◌<◌, ◌≤◌, ◌^◌, ℕ, length, arith, Bool, true, false, nat_eq, List, [], ◌∷◌, Option, Some, None, ◌||◌, if◌then◌else◌, refl, ap, sym, subst, inl, inr, ◌∙◌}
use Rattle.std.proofs.lemmas.Bool.{cases_Bool}
use Rattle.std.specs.List.{starts_with}
use Rattle.std.specs.declared.result.Result.{Result}
use Rattle.std.specs.declared.result.Result.TheVariants.{Ok, Err}
use Rattle.host_port.specs.declared.event.Event.{Event}
use Rattle.host_port.specs.declared.event.Event.TheVariants as event
use Rattle.host_port.specs.declared.event.Seen.{Seen}
use Rattle.host_port.specs.declared.event.Seen.TheVariants as seen
use Rattle.folder_change.specs.declared.change.Change.{Change}
use Rattle.commit_record.specs.Format.{file_limit}
use Rattle.commit_machine.specs.Names.{record_name, new_name, right_name}
use Rattle.commit_machine.specs.Jobs.{Before, After, Unknown, Ending, Done, Failed, Job, Made, moment_of, all_of}
use Rattle.commit_machine.specs.Machine.{State, Seizing, Placing, Removing, Extending, Discarding, Unlocking, Erasing, Committing, Checking, Releasing, Ended, Then, GoOn, Answer, Fault, next, refused, after_reply, faulted, passed_at, passed_then, passed_ending, passed_by, go_front}
use Rattle.commit_machine.specs.Goes.{IsNext, Goes, reply}
use Rattle.commit_machine.specs.Edits.{first_names, timed_for}
use Rattle.commit_machine.specs.Restraints.{is_failed}
use Rattle.commit_driver.specs.declared.step.Passed.TheVariants as passed
use Rattle.folder_commit.specs.declared.error.CommitError.{CommitError}
use Rattle.folder_commit.specs.declared.error.CommitError.TheVariants as error
use Rattle.folder_commit.specs.Ends.{AnswersAs, Commits}
use Rattle.folder_commit.specs.Commits.{IsCommit}
use Rattle.folder_commit.specs.Plans.{AreFiles}
use Rattle.folder_commit.specs.Told.{load_failed, look_failed, is_fault, is_unknown, TellsFaults, TellsUnknown, IsTold}
use Rattle.folder_commit.proofs.CleanLemmas.{load-is, publish-is, release-is}
use Rattle.folder_commit.proofs.PlanLemmas.{is-job}
use Rattle.folder_commit.proofs.ToldLemmas.{is_failed_end, is_bad, CleanThen, Clean, AsBad, refused_bad, step-bad, committing-bad, tells-faults}
use Rattle.folder_commit.proofs.TellLemmas.{end-told}

-- the end where it isn't known whether the decision was passed
abbrev is_unknown_end : Ending → Bool
is_unknown_end (Failed Unknown) = true
is_unknown_end a = false

-- whether it comes to that, by the events that are left
abbrev unknown_from : State → List Event → Bool
unknown_from Checking es = load_failed es
unknown_from (Releasing a) es = is_unknown_end a
unknown_from (Ended a) es = is_unknown_end a
unknown_from s es = look_failed es

known : (a : Ending) → is_failed_end a ≡ false → is_unknown_end a ≡ false
known (Failed passed) h = absurd (cc)
known a h = refl

known-passed : (a : Ending) → is_failed_end a ≡ false → is_unknown_end (Failed (passed_ending a)) ≡ false
known-passed Done h = refl
known-passed (Failed passed) h = absurd (cc)
known-passed a h = refl

known-then : (th : Then) → CleanThen th → is_unknown_end (Failed (passed_then th)) ≡ false
known-then GoOn h = refl
known-then (Answer a) h = known-passed a h

-- a call that fails at any state but that of the decision
known-at : (s : State) → Clean s → is_bad s ≡ false → is_unknown_end (Failed (passed_at s)) ≡ false
known-at (Placing r x xs ls th) h b = known-then th h
known-at (Removing r x xs ls th) h b = known-then th h
known-at (Extending r x xs ls th) h b = known-then th h
known-at (Discarding r x xs ls th) h b = known-then th h
known-at (Unlocking r n ns th) h b = known-then th h
known-at (Erasing r th) h b = known-then th h
known-at (Releasing a) h b = known-passed a b
known-at (Ended a) h b = known-passed a b
known-at Checking h b = absurd (cc)
known-at s h b = refl

fails-so : (e : Event) → is_failed e ≡ true → reply e ≡ Fault
fails-so (event.Load n (seen.Bytes c held)) h = absurd (cc)
fails-so (event.Load n (seen.TooLarge k)) h = absurd (cc)
fails-so (event.Load n seen.Failed) h = refl
fails-so (event.Load n seen.Memory) h = absurd (cc)
fails-so (event.Stage n c true) h = refl
fails-so (event.Stage n c false) h = absurd (cc)
fails-so (event.Publish from to done true) h = refl
fails-so (event.Publish from to done false) h = absurd (cc)
fails-so (event.Extend n at tail true) h = refl
fails-so (event.Extend n at tail false) h = absurd (cc)
fails-so (event.Erase n done true) h = refl
fails-so (event.Erase n done false) h = absurd (cc)
fails-so (event.Lock n t got true) h = refl
fails-so (event.Lock n t got false) h = absurd (cc)
fails-so (event.Unlock n t done true) h = refl
fails-so (event.Unlock n t done false) h = absurd (cc)
fails-so (event.Seize n got true) h = refl
fails-so (event.Seize n got false) h = absurd (cc)
fails-so e h = absurd (cc)

-- an event that didn't fail says nothing of it
goes-by : (e : Event) (es : List Event) → is_failed e ≡ false → look_failed (e ∷ es) ≡ look_failed es
goes-by (event.Publish from to done true) es h = absurd (cc)
goes-by e es h = refl

after-fault : (e : Event) (es : List Event) → load_failed es ≡ false → look_failed es ≡ false → look_failed (e ∷ es) ≡ false
after-fault (event.Publish from to done true) es p q = p
after-fault e es p q = q

module _ (j : Job) where
  -- the events that are left once the right is given up, and before
  over : (a : Ending) (es : List Event) (end : Ending) → Goes j (Ended a) es (Ended end) → es ≡ []
  over a [] end goes = refl
  over a (e ∷ es) end (now, inl p, is, more) = absurd (subst (λ (s : State). IsNext (next j s) e) p is)
  over a (e ∷ es) end (now, inr p, is, more) = absurd (subst (λ (s : State). IsNext (next j s) e) p is)

  release-alone : (a : Ending) (es : List Event) (end : Ending) → Goes j (Releasing a) es (Ended end) → (load_failed es ≡ false) × (look_failed es ≡ false)
  release-alone a [] end goes = (refl, refl)
  release-alone a (e ∷ es) end (now, from, is, more) =
      let at : now ≡ Releasing a = elim from [ inl p ↦ p | inr p ↦ p ] in
      let given : e ≡ event.Release (right_name j.actor) = release-is (right_name j.actor) e (subst (λ (s : State). IsNext (next j s) e) at is) in
      let there : Goes j (after_reply j (Releasing a) (reply e)) es (Ended end) = subst (λ (s : State). Goes j (after_reply j s (reply e)) es (Ended end)) at more in
      let none = over a es end (subst (λ (x : Event). Goes j (after_reply j (Releasing a) (reply x)) es (Ended end)) given there) in
      (ap (λ (x : Event). load_failed (x ∷ es)) given, ap (λ (x : Event). look_failed (x ∷ es)) given ∙ ap look_failed none)

  -- a state where no call has failed
  as-looks : (s : State) → is_bad s ≡ false → (es : List Event) (end : Ending) → Goes j s es (Ended end) → unknown_from s es ≡ look_failed es
  as-looks Checking h es end goes = absurd (cc)
  as-looks (Releasing a) h es end goes = known a h ∙ sym (release-alone a es end goes).1
  as-looks (Ended a) h es end goes = known a h ∙ sym (ap look_failed (over a es end goes))
  as-looks s h es end goes = refl

  -- memory runs out
  refused-looks : (s : State) → Clean s → (es : List Event) (end : Ending) → Goes j (refused j s) es (Ended end) → unknown_from s es ≡ unknown_from (refused j s) es
  refused-looks Checking h es end goes = refl
  refused-looks (Releasing a) h es end goes = refl
  refused-looks (Ended a) h es end goes = refl
  refused-looks s h es end goes = sym (as-looks (refused j s) (refused_bad j s h).1 es end goes)

  seen-known : (c : Option (List ℕ)) → is_unknown_end (Failed (passed_by j c)) ≡ false
  seen-known None = refl
  seen-known (Some bytes) = go (starts_with nat_eq bytes (go_front (moment_of j) j.token))
    where
      go : (b : Bool) → is_unknown_end (Failed (if b then After else Before)) ≡ false
      go true = refl
      go false = refl

  checking-looks : (m : List ℕ) (s : Seen) (es : List Event) → load_failed (event.Load m s ∷ es) ≡ unknown_from (after_reply j Checking (reply (event.Load m s))) es
  checking-looks m (seen.Bytes c held) es = sym (seen-known c)
  checking-looks m (seen.TooLarge n) es = refl
  checking-looks m seen.Failed es = refl
  checking-looks m seen.Memory es = refl

  abbrev Looks : State → Event → List Event → Type 0
  Looks s e es = unknown_from s (e ∷ es) ≡ unknown_from (after_reply j s (reply e)) es

  abbrev Leads : State → Event → List Event → Ending → Type 0
  Leads s e es end = Goes j (after_reply j s (reply e)) es (Ended end)

  committing-looks : (made : List Made) (from to : List ℕ) (done failed : Bool) (es : List Event) (end : Ending)
      → Leads (Committing made) (event.Publish from to done failed) es end → Looks (Committing made) (event.Publish from to done failed) es
  committing-looks made from to done true es end goes = refl
  committing-looks made from to done false es end goes =
      sym (as-looks (after_reply j (Committing made) (reply (event.Publish from to done false))) (committing-bad j made from to done false).1 es end goes)

  -- a state where no failed call is followed by a look
  plain-looks : (s : State) → Clean s → is_bad s ≡ false → faulted s ≡ Releasing (Failed (passed_at s)) → (e : Event) (es : List Event) (end : Ending)
      → is_bad (after_reply j s (reply e)) ≡ (is_bad s || is_failed e)
      → Leads s e es end → look_failed (e ∷ es) ≡ unknown_from (after_reply j s (reply e)) es
  plain-looks s h b f e es end step goes = elim (cases_Bool (is_failed e)) [
    | inl y ↦
        let to : after_reply j s (reply e) ≡ Releasing (Failed (passed_at s)) = ap (after_reply j s) (fails-so e y) ∙ f in
        let q = release-alone (Failed (passed_at s)) es end (subst (λ (t : State). Goes j t es (Ended end)) to goes) in
        after-fault e es q.0 q.1 ∙ sym (ap (λ (t : State). unknown_from t es) to ∙ known-at s h b)
    | inr nay ↦
        let fine : is_bad (after_reply j s (reply e)) ≡ false = step ∙ ap (λ (x : Bool). x || is_failed e) b ∙ nay in
        goes-by e es nay ∙ sym (as-looks (after_reply j s (reply e)) fine es end goes)
  ]

  looks : (s : State) (e : Event) → Clean s → IsNext (next j s) e → (es : List Event) (end : Ending) → Leads s e es end → Looks s e es
  looks Checking e h is es end goes =
      let w = load-is (record_name j.actor) e is in
      subst (λ (x : Event). Looks Checking x es) (sym w.1) (checking-looks (record_name j.actor) w.0 es)
  looks (Releasing a) e h is es end goes = subst (λ (x : Event). Looks (Releasing a) x es) (sym (release-is (right_name j.actor) e is)) refl
  looks (Ended a) e h is es end goes = absurd is
  looks (Committing made) e h is es end goes =
      let w = publish-is (new_name j.actor) (record_name j.actor) e is in
      subst (λ (x : Event). Leads (Committing made) x es end → Looks (Committing made) x es) (sym w.2) (committing-looks made (new_name j.actor) (record_name j.actor) w.0 w.1 es end) goes
  looks s e h is es end goes = plain-looks s h refl refl e es end (step-bad j s e h is).1 goes

  look-told : (es : List Event) (s : State) (end : Ending) → Clean s → Goes j s es (Ended end) → is_unknown_end end ≡ unknown_from s es
  look-told [] s end h (inl p) = sym (ap (λ (t : State). unknown_from t []) p)
  look-told [] s end h (inr p) = sym (refused-looks s h [] end (inl p) ∙ ap (λ (t : State). unknown_from t []) p)
  look-told (e ∷ es) s end h (now, from, is, more) =
      let at = as_bad from in
      look-told es (after_reply j now (reply e)) end (step-bad j now e at.0 is).0 more ∙ sym (looks now e at.0 is es end more) ∙ sym (same from)
    where
      as_bad : ((now ≡ s) ⊎ (now ≡ refused j s)) → AsBad j s now
      as_bad (inl p) = subst (AsBad j s) (sym p) (h, refl)
      as_bad (inr p) = subst (AsBad j s) (sym p) (refused_bad j s h)

      same : ((now ≡ s) ⊎ (now ≡ refused j s)) → unknown_from s (e ∷ es) ≡ unknown_from now (e ∷ es)
      same (inl p) = sym (ap (λ (t : State). unknown_from t (e ∷ es)) p)
      same (inr p) = refused-looks s h (e ∷ es) end (now, inl p, is, more) ∙ sym (ap (λ (t : State). unknown_from t (e ∷ es)) p)

unknown-so : (files : List (List ℕ)) (result : Result Unit CommitError) (end : Ending) → AnswersAs files result end → is_unknown_end end ≡ is_unknown result
unknown-so files (Ok u) end is = ap is_unknown_end is
unknown-so files (Err (error.Busy name)) end is = ap is_unknown_end is
unknown-so files (Err error.Record) end is = ap is_unknown_end is
unknown-so files (Err (error.Changed name at)) end is = ap is_unknown_end is
unknown-so files (Err (error.TooLarge name n)) end is = ap is_unknown_end is
unknown-so files (Err (error.Disk passed.Before)) end is = ap is_unknown_end is
unknown-so files (Err (error.Disk passed.After)) end is = ap is_unknown_end is
unknown-so files (Err (error.Disk passed.Unknown)) end is = ap is_unknown_end is
unknown-so files (Err error.Memory) end (inl is) = ap is_unknown_end is
unknown-so files (Err error.Memory) end (inr is) = ap is_unknown_end is.2
unknown-so files (Err (error.TooManyNames n)) end is = absurd is

tells-unknown : (j : Job) (es : List Event) (result : Result Unit CommitError) → Commits j es result → TellsUnknown es result
tells-unknown j es result h = sym (look-told j es Seizing h.end tt h.goes) ∙ unknown-so (all_of j) result h.end h.is_as

-- no event, and an answer that tells of no failed call
quiet-told : (actor : List ℕ) (c : Change) (cs : List Change) (base : List (List ℕ)) (result : Result Unit CommitError) → is_fault result ≡ false
    → is_unknown result ≡ false → (length (first_names (c ∷ cs)) ≤ file_limit → ⊥) → IsTold actor (c ∷ cs) base [] result
quiet-told actor c cs base result f u many = (sym f, sym u, λ few. absurd (many few))

pub is-told : (actor : List ℕ) (token : ℕ) (changes : List Change) (base : List (List ℕ)) (es : List Event) (result : Result Unit CommitError)
    → token < 2 ^ 64 → AreFiles actor changes → IsCommit actor token changes base es result → IsTold actor changes base es result
is-told actor token [] base es result fits files h =
    let T : List Event → Result Unit CommitError → Type 0 = λ es r. TellsFaults es r × TellsUnknown es r in
    subst (λ (z : List Event). T z result) (sym h.0) (subst (T []) (sym h.1) (refl, refl))
is-told actor token (c ∷ cs) base es result fits files (inl many) =
    let T : List Event → Result Unit CommitError → Type 0 = λ es r. IsTold actor (c ∷ cs) base es r in
    let not : length (first_names (c ∷ cs)) ≤ file_limit → ⊥ = λ few. absurd (omega (arith, few, many.0)) in
    subst (λ (z : List Event). T z result) (sym many.1.0) (elim many.1.1 [
      | inl e ↦ subst (T []) (sym e) (quiet-told actor c cs base (Err (error.TooManyNames (length (first_names (c ∷ cs))))) refl refl not)
      | inr e ↦ subst (T []) (sym e) (quiet-told actor c cs base (Err error.Memory) refl refl not)
    ])
is-told actor token (c ∷ cs) base es result fits files (inr few) =
    let time = few.1.0 in
    let h = few.1.1 in
    let j = timed_for actor token time (c ∷ cs) base in
    let faults = tells-faults j es result h in
    (faults, tells-unknown j es result h, λ l. end-told actor token time c cs base (is-job actor token time (c ∷ cs) base fits files (omega arith) l) es result h faults)
