-- What is known at the state that a list of names leads to.
use Rattle.std.proofs.Common.{◌≡◌, ℕ, ℤ, ◌^◌, lit<, Bool, true, false, List, [], ◌∷◌, Option, Some, None, if◌then◌else◌, refl, ap, sym, subst, inl, inr}
use Rattle.std.proofs.lemmas.Bool.{lt-ltb}
use Rattle.std.specs.List.{list_all}
use Rattle.commit_record.specs.Format.{fits_number}
use Rattle.commit_record.specs.declared.record.Record.{Record}
use Rattle.commit_record.specs.declared.way.Way.{Way}
use Rattle.commit_record.specs.declared.way.Way.TheVariants.{Replace, Remove, Extend}
use Rattle.host_port.specs.Disk.{Disk}
use Rattle.commit_machine.specs.Names.{record_name, new_name}
use Rattle.commit_machine.specs.Records.{record_in, record_of, is_go, names_of, AreDistinct}
use Rattle.commit_machine.specs.Settled.{Mem}
use Rattle.commit_machine.specs.Items.{Item, found_items}
use Rattle.commit_machine.specs.Jobs.{Ending, Refused, NoMemory, Found, Refusal, seen_files, Edit, Job, Made, edits_of, all_of, entries_for, prepare_of, IsJob}
use Rattle.commit_machine.specs.Machine.{Then, GoOn, Answer, State, Seizing, Timing, Looking, Undoing, Placing, Testing, Removing, Extending, Discarding, Unlocking, Erasing, Clearing, Preparing, Publishing, Locking, Loading, Staging, Deciding, Committing, Checking, Releasing, Ended, asking, unlocking, undoing, removing, extending, place_one, placing, staging, judged, loading, locking, mended, none_stands, mending, record_seen, looked, refusing, refused, wanted}
use Rattle.commit_machine.specs.Lawful.{standing}
use Rattle.commit_machine.proofs.records.InFile.{stands-distinct}
use Rattle.commit_machine.proofs.records.OfItems.{names-entries_for, names-found, ways-found}
use Rattle.commit_machine.proofs.standing.Known.{IsLooked, Closing, Own, Clean, Idle, IsValid, IsOwnEnd, ThenOk, Subset, Covers, LocksLeft, Among, PartPlaced, Knows}

pub names-prepare : (j : Job) → names_of (prepare_of j) ≡ all_of j
names-prepare j = names-entries_for (λ n. Replace) (all_of j)

-- no bytes stay before the decision
numbers_prepare : (ns : List (List ℕ)) → list_all fits_number (entries_for (λ n. Replace) ns) ≡ true
numbers_prepare [] = refl
numbers_prepare (n ∷ ns) = rw (lt-ltb 0 (2 ^ 64) (lit< tt), numbers_prepare ns) refl

pub to_prepare : (j : Job) (ns : List (List ℕ)) → Subset ns (all_of j) → Subset ns (names_of (prepare_of j))
to_prepare j ns s = subst (Subset ns) (sym (names-prepare j)) s

module _ (j : Job) (d : Disk) where
  pub knows_unlocking : (r : Record) (ls : List (List ℕ)) (th : Then) → Closing j.actor r [] ls d → Subset ls (names_of r) → ThenOk j r th d → Knows j (unlocking r ls th) d
  knows_unlocking r [] th k sub t = (k, t)
  knows_unlocking r (n ∷ ns) th k sub t = (k, sub, t)

  knows_removing : (r : Record) (x : Item) (xs : List Item) (ls : List (List ℕ)) (th : Then) → x.way ≡ Remove → PartPlaced j.actor r (x ∷ xs) ls th d
      → ThenOk j r th d → Knows j (removing r x xs ls th) d
  knows_removing r x xs ls GoOn way k t = (k, t, subst IsLooked (sym way) tt)
  knows_removing r x xs ls (Answer e) way k t = (k, t, way, k.staged x (inl refl))

  knows_extending : (r : Record) (x : Item) (xs : List Item) (ls : List (List ℕ)) (th : Then) (at : ℕ) → x.way ≡ Extend at
      → PartPlaced j.actor r (x ∷ xs) ls th d → ThenOk j r th d → Knows j (extending r x xs ls th) d
  knows_extending r x xs ls GoOn at way k t = (k, t, subst IsLooked (sym way) tt)
  knows_extending r x xs ls (Answer e) at way k t = (k, t, (at, way), k.staged x (inl refl))

  knows_place_one : (way : Way) (r : Record) (x : Item) (xs : List Item) (ls : List (List ℕ)) (th : Then) → x.way ≡ way
      → PartPlaced j.actor r (x ∷ xs) ls th d → ThenOk j r th d → Knows j (place_one way r x xs ls th) d
  knows_place_one Replace r x xs ls th is k t = (k, t, is)
  knows_place_one Remove r x xs ls th is k t = knows_removing r x xs ls th is k t
  knows_place_one (Extend at) r x xs ls th is k t = knows_extending r x xs ls th at is k t

  pub knows_placing : (r : Record) (xs : List Item) (ls : List (List ℕ)) (th : Then) → PartPlaced j.actor r xs ls th d → ThenOk j r th d → Knows j (placing r xs ls th) d
  knows_placing r [] ls th k t = knows_unlocking r ls th k.closing k.locks_within t
  knows_placing r (x ∷ xs) ls th k t = knows_place_one x.way r x xs ls th refl k t

  pub knows_undoing : (r : Record) (ns ls : List (List ℕ)) (th : Then) → Closing j.actor r ns ls d → is_go r ≡ false → Subset ns (names_of r)
      → Subset ls (names_of r) → ThenOk j r th d → Knows j (undoing r ns ls th) d
  knows_undoing r [] ls th k go sub sub2 t = knows_unlocking r ls th k sub2 t
  knows_undoing r (n ∷ ns) ls th k go sub sub2 t = (k, go, sub, sub2, t)

  -- the clean-up of the own record
  pub knows_refusing : (ns ls : List (List ℕ)) (why : Ending) (made left : List Made) → IsOwnEnd why → Own j ns ls made left d → Subset ns (all_of j)
      → Subset ls (all_of j) → Knows j (refusing j ns ls why) d
  knows_refusing ns ls why made left own k sub sub2 =
      knows_undoing (prepare_of j) ns ls (Answer why) k.closing refl (to_prepare j ns sub) (to_prepare j ls sub2) (record { token = refl; names = names-prepare j; rest = k.rest; own_end = own })

  pub knows_staging : (ns : List (List ℕ)) (made left : List Made) → Own j ns (all_of j) made left d → Covers j made [] → Subset ns (all_of j) → Among left made → Knows j (staging ns made left) d
  knows_staging ns made [] k c sub part = (
    record {
      closing = record { right = k.closing.right; stands = k.closing.stands; gone = λ m h. inl (subst (Mem m) (names-prepare j) h); free = k.closing.free };
      rest = k.rest;
      locked = k.locked;
      seen = k.seen;
      staged = k.staged;
    },
    c,
  )
  knows_staging ns made (x ∷ left) k c sub part = (k, c, sub, part)

  knows_judged : (made : List Made) (o : Option Refusal) → Own j [] (all_of j) made made d → Covers j made [] → Knows j (judged j made o) d
  knows_judged made None k c = knows_staging [] made made k c (record { each = λ m h. absurd h }) (record { each = λ x h. h })
  knows_judged made (Some why) k c = knows_refusing [] (all_of j) (Refused why) made made tt k (record { each = λ m h. absurd h }) (record { each = λ m h. h })

  pub knows_loading : (made : List Made) (left : List Edit) → Own j [] (all_of j) made made d → Covers j made left → Knows j (loading j made left) d
  knows_loading made [] k c = knows_judged made (j.refusal (seen_files made)) k c
  knows_loading made (x ∷ left) k c = (k, c)

  pub knows_locking : (ls : List (List ℕ)) (left : List Edit) → Own j [] ls [] [] d → LocksLeft j ls left → Knows j (locking j ls left) d
  knows_locking ls [] k c =
      let own : Own j [] (all_of j) [] [] d = record {
        closing = record { right = k.closing.right; stands = k.closing.stands; gone = k.closing.gone; free = λ m h. inl (subst (Mem m) (names-prepare j) h) };
        rest = k.rest;
        locked = λ m h. elim (c.all m h) [ inl a ↦ k.locked m a | inr b ↦ absurd b.1 ];
        seen = λ x h. absurd h;
        staged = λ x h. absurd h;
      } in
      knows_loading [] (edits_of j) own (record { each = λ x h. absurd h; all = λ e m. inl m; within = λ e m. m })
  knows_locking ls (e ∷ left) k h = (k, h)

  -- the state once the right is taken
  pub knows_asking : (o : Option ℤ) → Clean j d → Knows j (asking o) d
  knows_asking None k = k
  knows_asking (Some time) k = k

  same_set : (r : Record) → Subset (names_of r) (names_of r)
  same_set r = record { each = λ m h. h }

  -- a record that stands when it is looked at
  pub knows_mending : (r : Record) → Clean j d → standing j.actor d ≡ Some r → Knows j (mending r) d
  knows_mending r k e = go (is_go r) refl
    where
      whole : Closing j.actor r (names_of r) (names_of r) d
      whole = record { right = k.right; stands = e; gone = λ m h. inl h; free = λ m h. inl h }

      distinct : AreDistinct (names_of r)
      distinct = stands-distinct (d.files (record_name j.actor)) r e

      -- all of it is to be put in place
      placed : is_go r ≡ true → PartPlaced j.actor r (found_items r) (names_of r) GoOn d
      placed g = record {
        closing = subst (λ (ns : List (List ℕ)). Closing j.actor r ns (names_of r) d) (sym (names-found r)) whole;
        go = g;
        within = subst (λ (ns : List (List ℕ)). Subset ns (names_of r)) (sym (names-found r)) (same_set r);
        locks_within = same_set r;
        distinct = subst AreDistinct (sym (names-found r)) distinct;
        ways = ways-found r distinct;
        staged = tt;
      }

      go : (b : Bool) → is_go r ≡ b → Knows j (mending r) d
      go true g = subst (λ (b : Bool). Knows j
          (if b then placing r (found_items r) (names_of r) GoOn else undoing r (names_of r) (names_of r) GoOn) d) (sym g) (knows_placing r (found_items r) (names_of r) GoOn (placed g) k.fresh)
      go false g = subst (λ (b : Bool). Knows j
          (if b then placing r (found_items r) (names_of r) GoOn else undoing r (names_of r) (names_of r) GoOn) d) (sym g)
          (knows_undoing r (names_of r) (names_of r) GoOn whole g (same_set r) (same_set r) k.fresh)

  knows_record : (o : Option Record) → Clean j d → standing j.actor d ≡ o → Knows j (record_seen o) d
  knows_record None k e = k.fresh
  knows_record (Some r) k e = knows_mending r k e

  valid_job : IsJob j → (es : List Edit) → j.edits ≡ Some es → IsValid j
  valid_job job es e = record { valid = job.valid es e; token_fits = job.token_fits; numbers_fit = numbers_prepare (all_of j); is = refl }

  knows_none : IsJob j → (o : Option (List Edit)) → j.edits ≡ o → Idle j None d → Knows j (none_stands o) d
  knows_none job None e k = k
  knows_none job (Some es) e k = (k, valid_job job es e)

  pub knows_looked : IsJob j → (c : Option (List ℕ)) → Clean j d → d.files (record_name j.actor) ≡ c → Knows j (looked j c) d
  knows_looked job None k e = knows_none job j.edits refl (record { clean = k; none = e; new = λ b n. absurd (cc) })
  knows_looked job (Some bytes) k e = knows_record (record_of bytes) k (ap record_in e)

  knows_found : IsJob j → (found : Found) (o : Option (List Edit)) → j.edits ≡ o → d.files (new_name j.actor) ≡ None → Idle j None d → Knows j (mended o found) d
  knows_found job found None e no_new k = (record { done = record { fresh = k.clean.fresh; none = k.none }; no_new = no_new }, k.clean.right)
  knows_found job found (Some es) e no_new k = (k, valid_job job es e)

  pub knows_mended : IsJob j → (found : Found) → d.files (new_name j.actor) ≡ None → Idle j None d → Knows j (mended j.edits found) d
  knows_mended job found no_new k = knows_found job found j.edits refl no_new k

  whole_set : Subset (all_of j) (all_of j)
  whole_set = record { each = λ m h. h }

  none_set : Subset [] (all_of j)
  none_set = record { each = λ m h. absurd h }

  -- what is known where memory runs out
  pub knows_refused : (s : State) → Knows j s d → Knows j (refused j s) d
  knows_refused Seizing k = k
  knows_refused (Timing time) k = k.fresh
  knows_refused Looking k = k.fresh
  knows_refused (Undoing r n ns ls GoOn) k = k.4
  knows_refused (Undoing r n ns ls (Answer a)) k = k
  knows_refused (Placing r x xs ls GoOn) k = k.1
  knows_refused (Placing r x xs ls (Answer a)) k = k
  knows_refused (Testing r x xs ls) k = k.1
  knows_refused (Removing r x xs ls GoOn) k = k.1
  knows_refused (Removing r x xs ls (Answer a)) k = k
  knows_refused (Extending r x xs ls GoOn) k = k.1
  knows_refused (Extending r x xs ls (Answer a)) k = k
  knows_refused (Discarding r x xs ls GoOn) k = k.1
  knows_refused (Discarding r x xs ls (Answer a)) k = k
  knows_refused (Unlocking r n ns GoOn) k = k.2
  knows_refused (Unlocking r n ns (Answer a)) k = k
  knows_refused (Erasing r GoOn) k = k.1
  knows_refused (Erasing r (Answer a)) k = k
  knows_refused (Clearing found) k = k.clean.fresh
  knows_refused Preparing k = k.0.clean.fresh
  knows_refused Publishing k = k.0.clean.fresh
  knows_refused (Locking ls e left) k = knows_refusing [] ls NoMemory [] [] tt k.0 none_set (record { each = k.1.back })
  knows_refused (Loading made e left) k = knows_refusing [] (all_of j) NoMemory made made tt k.0 none_set whole_set
  knows_refused (Staging ns made x left) k = knows_refusing ns (all_of j) NoMemory made (x ∷ left) tt k.0 k.2 whole_set
  knows_refused (Deciding made) k = knows_refusing (all_of j) (all_of j) NoMemory made [] tt k.0 whole_set whole_set
  knows_refused (Committing made) k = knows_refusing (all_of j) (all_of j) NoMemory made [] tt k.0 whole_set whole_set
  knows_refused Checking k = k
  knows_refused (Releasing a) k = k
  knows_refused (Ended a) k = k

  pub knows_wanted : (s : State) → Knows j s d → Knows j (wanted j s) d
  knows_wanted Checking k = tt
  knows_wanted Seizing k = knows_refused Seizing k
  knows_wanted (Timing time) k = knows_refused (Timing time) k
  knows_wanted Looking k = knows_refused Looking k
  knows_wanted (Loading made e left) k = knows_refused (Loading made e left) k
  knows_wanted (Undoing r n ns ls th) k = knows_refused (Undoing r n ns ls th) k
  knows_wanted (Placing r x xs ls th) k = knows_refused (Placing r x xs ls th) k
  knows_wanted (Testing r x xs ls) k = knows_refused (Testing r x xs ls) k
  knows_wanted (Removing r x xs ls th) k = knows_refused (Removing r x xs ls th) k
  knows_wanted (Extending r x xs ls th) k = knows_refused (Extending r x xs ls th) k
  knows_wanted (Discarding r x xs ls th) k = knows_refused (Discarding r x xs ls th) k
  knows_wanted (Unlocking r n ns th) k = knows_refused (Unlocking r n ns th) k
  knows_wanted (Erasing r th) k = knows_refused (Erasing r th) k
  knows_wanted (Clearing found) k = knows_refused (Clearing found) k
  knows_wanted Preparing k = knows_refused Preparing k
  knows_wanted Publishing k = knows_refused Publishing k
  knows_wanted (Locking ls e left) k = knows_refused (Locking ls e left) k
  knows_wanted (Staging ns made x left) k = knows_refused (Staging ns made x left) k
  knows_wanted (Deciding made) k = knows_refused (Deciding made) k
  knows_wanted (Committing made) k = knows_refused (Committing made) k
  knows_wanted (Releasing a) k = knows_refused (Releasing a) k
  knows_wanted (Ended a) k = knows_refused (Ended a) k
