-- The end of a commit by its own events.
use Rattle.std.proofs.Common.{◌≡◌, ◌⊎◌, ℕ, ℤ, Bool, true, false, List, [], ◌∷◌, ◌++◌, map, Option, Some, None, ◌||◌, refl, ap, sym, subst, inl, inr, ◌∙◌, append-nil, if◌then◌else◌}
use Rattle.std.specs.List.{list_any}
use Rattle.std.specs.Str.{bytes_eq}
use Rattle.std.specs.declared.result.Result.{Result}
use Rattle.std.specs.declared.result.Result.TheVariants.{Ok, Err}
use Rattle.std.proofs.lemmas.Bool.{cases_Bool, cond-true, cond-false, false_from_ne_true}
use Rattle.std.proofs.lemmas.Slice.Eq.{bytes_eq-Decides}
use Rattle.host_port.specs.declared.event.Event.{Event}
use Rattle.host_port.specs.declared.event.Event.TheVariants as event
use Rattle.host_port.specs.declared.event.Seen.{Seen}
use Rattle.host_port.specs.declared.event.Seen.TheVariants as seen
use Rattle.commit_record.specs.Format.{written}
use Rattle.commit_record.specs.declared.record.Record.{Record}
use Rattle.commit_record.specs.declared.way.Way.{Way}
use Rattle.commit_record.specs.declared.way.Way.TheVariants.{Replace, Remove, Extend}
use Rattle.folder_change.specs.Outcomes.{bytes_of}
use Rattle.commit_machine.specs.Names.{record_name, new_name, right_name, staged_name}
use Rattle.commit_machine.specs.Records.{record_of, is_go, names_of}
use Rattle.commit_machine.specs.Items.{Item, found_items, made_items}
use Rattle.commit_machine.specs.Settled.{Files, Mem}
use Rattle.commit_machine.specs.Jobs.{Found, Refusal, Busy, NotARecord, TooLarge, Ending, Done, Refused, NoMemory, Edit, Job, Made, all_names, all_of, prepare_of, go_of, made_at, seen_files}
use Rattle.commit_machine.specs.Machine.{State, Seizing, Timing, Looking, Undoing, Placing, Testing, Removing, Extending, Discarding, Unlocking, Erasing, Clearing, Preparing, Publishing, Locking, Loading, Staging, Deciding, Committing, Checking, Releasing, Ended, Then, GoOn, Answer, unlocking, undoing, removing, extending, stay, place_one, place_known, placing, staging, mending, record_seen, refusing, judged, loading, locking, loaded, next, refused, after_reply}
use Rattle.commit_machine.specs.Goes.{IsNext, reply, Goes}
use Rattle.commit_machine.specs.Restraints.{is_failed}
use Rattle.commit_machine.proofs.records.Names.{staged-new}
use Rattle.commit_driver.specs.Places.{WantedAs, made_by}
use Rattle.commit_driver.proofs.StateLemmas.{loaded-by}
use Rattle.folder_commit.specs.declared.error.CommitError.{CommitError}
use Rattle.folder_commit.specs.declared.error.CommitError.TheVariants as error
use Rattle.folder_commit.specs.Ends.{AnswersAs}
use Rattle.folder_commit.specs.Told.{seen_in, by_decision, by_changes, by_load, by_lock, by_standing, by_record, by_time, by_right, TellsFaults, TellsEnd}
use Rattle.folder_commit.proofs.CleanLemmas.{ask-is, extend-is, erase-is, publish-is, lock-is, unlock-is, seize-is, load-is, release-is, stage-is, AllQuiet, cleans-refusing, all-quiet}

or_parts : (a b : Bool) → (a || b) ≡ false → (a ≡ false) × (b ≡ false)
or_parts true b h = absurd (cc)
or_parts false b h = (refl, h)

-- what was made of a file saw it so, or where none was, this
abbrev seen_or : Option Made → Option (List ℕ) → Option (List ℕ)
seen_or None c = c
seen_or (Some x) c = x.seen

abbrev made_names : List Made → List (List ℕ)
made_names done = map (λ x. x.edit.name) done

-- the file is loaded already
in-made : (done : List Made) (n : List ℕ) (c : Option (List ℕ)) → Mem n (made_names done) → seen_or (made_at done n) c ≡ seen_files done n
in-made [] n c m = absurd m
in-made (x ∷ xs) n c m = elim (cases_Bool (bytes_eq n x.edit.name)) [ inl y ↦ rw y refl | inr nay ↦ rw nay (in-made xs n c (later m nay)) ]
  where
    later : Mem n (x.edit.name ∷ made_names xs) → bytes_eq n x.edit.name ≡ false → Mem n (made_names xs)
    later (inl is) nay = let w : bytes_eq n x.edit.name ≡ true = (bytes_eq-Decides n x.edit.name).1 is in absurd (cc)
    later (inr h) nay = h

-- one file more is loaded
one-more : (done : List Made) (x : Made) (n : List ℕ) (c : Option (List ℕ)) → seen_or (made_at done n) (if bytes_eq n x.edit.name then x.seen else c) ≡ seen_or (made_at (done ++ x ∷ []) n) c
one-more [] x n c = go (bytes_eq n x.edit.name)
  where
    go : (b : Bool) → (if b then x.seen else c) ≡ seen_or (if b then Some x else None) c
    go true = refl
    go false = refl
one-more (y ∷ ys) x n c = elim (cases_Bool (bytes_eq n y.edit.name)) [ inl e ↦ rw e refl | inr e ↦ rw e (one-more ys x n c) ]

names-more : (done : List Made) (x : Made) (names : List (List ℕ)) → made_names (done ++ x ∷ []) ++ names ≡ made_names done ++ x.edit.name ∷ names
names-more [] x names = refl
names-more (y ∷ ys) x names = ap (λ (ns : List (List ℕ)). y.edit.name ∷ ns) (names-more ys x names)

abbrev job_with : List ℕ → ℕ → ℤ → List Edit → (Files → Option Refusal) → Job
job_with actor token time edits refusal = record { actor = actor; token = token; time = Some time; edits = Some edits; refusal = refusal }

-- a commit of one file at least, whose refusal depends on its files alone, none of which is the record or a staged file
module _ (actor : List ℕ) (token : ℕ) (time : ℤ) (first : Edit) (more : List Edit) (refusal : Files → Option Refusal)
    (by_names : (f g : Files) → ((n : List ℕ) → Mem n (all_names (first ∷ more)) → f n ≡ g n) → refusal f ≡ refusal g)
    (plain : (n : List ℕ) → Mem n (all_names (first ∷ more)) → bytes_eq n (record_name actor) ≡ false)
    (unstaged : (n : List ℕ) → Mem n (all_names (first ∷ more)) → (t : ℕ) (m : List ℕ) → bytes_eq n (staged_name t m) ≡ false) (files : Files) where
  abbrev job : Job
  job = job_with actor token time (first ∷ more) refusal

  abbrev names : List (List ℕ)
  names = all_names (first ∷ more)

  abbrev why : Option Refusal
  why = refusal files

  abbrev locks_from : List Event → Ending
  locks_from es = by_lock actor why names names es

  -- the end by the events that are left, from a state where no call has failed
  abbrev end_then : Then → List Event → Ending
  end_then GoOn es = locks_from es
  end_then (Answer a) es = a

  abbrev end_from : State → List Event → Ending
  end_from Seizing es = by_right actor why names es
  end_from (Timing at) es = by_time actor why names es
  end_from Looking es = by_record actor why names es
  end_from (Undoing r n ns ls th) es = end_then th es
  end_from (Placing r x xs ls th) es = end_then th es
  end_from (Testing r x xs ls) es = locks_from es
  end_from (Removing r x xs ls th) es = end_then th es
  end_from (Extending r x xs ls th) es = end_then th es
  end_from (Discarding r x xs ls th) es = end_then th es
  end_from (Unlocking r n ns th) es = end_then th es
  end_from (Erasing r th) es = end_then th es
  end_from (Clearing f) es = locks_from es
  end_from Preparing es = locks_from es
  end_from Publishing es = locks_from es
  end_from (Locking ls x left) es = by_lock actor why names (all_names (x ∷ left)) es
  end_from (Loading done x left) es = by_load actor why (all_names (x ∷ left)) es
  end_from (Staging ns done x left) es = by_decision actor es
  end_from (Deciding done) es = by_decision actor es
  end_from (Committing done) es = by_decision actor es
  end_from Checking es = NoMemory
  end_from (Releasing a) es = a
  end_from (Ended a) es = a

  -- the files are what was loaded, and what the events that are left show
  abbrev Shown : List Made → List Event → Type 0
  Shown done es = (n : List ℕ) → Mem n names → files n ≡ seen_or (made_at done n) (seen_in es n)

  abbrev ShownThen : Then → List Event → Type 0
  ShownThen GoOn es = Shown [] es
  ShownThen (Answer a) es = Unit {0}

  -- the states where no call has failed, before these events
  abbrev Shape : State → List Event → Type 0
  Shape Seizing es = Shown [] es
  Shape (Timing at) es = Shown [] es
  Shape Looking es = Shown [] es
  Shape (Undoing r n ns ls th) es = ShownThen th es
  Shape (Placing r x xs ls th) es = ShownThen th es
  Shape (Testing r x xs ls) es = Shown [] es
  Shape (Removing r x xs ls th) es = ShownThen th es
  Shape (Extending r x xs ls th) es = ShownThen th es
  Shape (Discarding r x xs ls th) es = ShownThen th es
  Shape (Unlocking r n ns th) es = ShownThen th es
  Shape (Erasing r th) es = ShownThen th es
  Shape (Clearing f) es = Shown [] es
  Shape Preparing es = Shown [] es
  Shape Publishing es = Shown [] es
  Shape (Locking ls x left) es = Shown [] es
  Shape (Loading done x left) es = Shown done es × (made_names done ++ all_names (x ∷ left) ≡ names)
  Shape Checking es = ⊥
  Shape s es = Unit {0}

  abbrev Ends_so : State → List Event → Ending → Type 0
  Ends_so s es a = Shape s es × (end_from s es ≡ a)

  so_unlocking : (r : Record) (ls : List (List ℕ)) (th : Then) (es : List Event) → ShownThen th es → Ends_so (unlocking r ls th) es (end_then th es)
  so_unlocking r [] th es h = (h, refl)
  so_unlocking r (l ∷ ls) th es h = (h, refl)

  so_undoing : (r : Record) (ns ls : List (List ℕ)) (th : Then) (es : List Event) → ShownThen th es → Ends_so (undoing r ns ls th) es (end_then th es)
  so_undoing r [] ls th es h = so_unlocking r ls th es h
  so_undoing r (n ∷ ns) ls th es h = (h, refl)

  so_removing : (r : Record) (x : Item) (xs : List Item) (ls : List (List ℕ)) (th : Then) (es : List Event) → ShownThen th es → Ends_so (removing r x xs ls th) es (end_then th es)
  so_removing r x xs ls GoOn es h = (h, refl)
  so_removing r x xs ls (Answer e) es h = (h, refl)

  so_extending : (r : Record) (x : Item) (xs : List Item) (ls : List (List ℕ)) (th : Then) (es : List Event) → ShownThen th es → Ends_so (extending r x xs ls th) es (end_then th es)
  so_extending r x xs ls GoOn es h = (h, refl)
  so_extending r x xs ls (Answer e) es h = (h, refl)

  so_known : (way : Way) (r : Record) (x : Item) (xs : List Item) (ls : List (List ℕ)) (es : List Event) → Shown [] es → Ends_so (place_known way r x xs ls GoOn) es (locks_from es)
  so_known Replace r x xs ls es h = (h, refl)
  so_known Remove r x xs ls es h = (h, refl)
  so_known (Extend at) r x xs ls es h = (h, refl)

  so_one : (way : Way) (r : Record) (x : Item) (xs : List Item) (ls : List (List ℕ)) (th : Then) (es : List Event) → ShownThen th es → Ends_so (place_one way r x xs ls th) es (end_then th es)
  so_one Replace r x xs ls th es h = (h, refl)
  so_one Remove r x xs ls th es h = so_removing r x xs ls th es h
  so_one (Extend at) r x xs ls th es h = so_extending r x xs ls th es h

  so_placing : (r : Record) (xs : List Item) (ls : List (List ℕ)) (th : Then) (es : List Event) → ShownThen th es → Ends_so (placing r xs ls th) es (end_then th es)
  so_placing r [] ls th es h = so_unlocking r ls th es h
  so_placing r (x ∷ xs) ls th es h = so_one x.way r x xs ls th es h

  so_mending : (r : Record) (es : List Event) → Shown [] es → Ends_so (mending r) es (locks_from es)
  so_mending r es h = elim (cases_Bool (is_go r)) [ inl y ↦ rw y (so_placing r (found_items r) (names_of r) GoOn es h) | inr nay ↦ rw nay (so_undoing r (names_of r) (names_of r) GoOn es h) ]

  so_seen : (o : Option Record) (es : List Event) → Shown [] es → Ends_so (record_seen o) es (by_standing o (locks_from es))
  so_seen None es h = (tt, refl)
  so_seen (Some r) es h = so_mending r es h

  so_refusing : (ns ls : List (List ℕ)) (a : Ending) (es : List Event) → Ends_so (refusing job ns ls a) es a
  so_refusing ns ls a es = so_undoing (prepare_of job) ns ls (Answer a) es tt

  so_staging : (ns : List (List ℕ)) (done left : List Made) (es : List Event) → Ends_so (staging ns done left) es (by_decision actor es)
  so_staging ns done [] es = (tt, refl)
  so_staging ns done (x ∷ left) es = (tt, refl)

  so_judged : (done : List Made) (o : Option Refusal) (es : List Event) → Ends_so (judged job done o) es (by_changes o (by_decision actor es))
  so_judged done None es = so_staging [] done done es
  so_judged done (Some r) es = so_refusing [] names (Refused r) es

  -- once all files are loaded the job is judged on what the events show
  judged-so : (done : List Made) (es : List Event) → Shown done es → made_names done ++ [] ≡ names → refusal (seen_files done) ≡ why
  judged-so done es h is =
      let all : made_names done ≡ names = sym (append-nil (made_names done)) ∙ is in
      by_names (seen_files done) files (λ n m. sym (in-made done n (seen_in es n) (subst (Mem n) (sym all) m)) ∙ sym (h n m))

  so_loading : (done : List Made) (left : List Edit) (es : List Event) → Shown done es → made_names done ++ all_names left ≡ names
      → Ends_so (loading job done left) es (by_load actor why (all_names left) es)
  so_loading done [] es h is =
      let P : Option Refusal → Type 0 = λ o. Ends_so (judged job done (refusal (seen_files done))) es (by_changes o (by_decision actor es)) in
      subst P (judged-so done es h is) (so_judged done (refusal (seen_files done)) es)
  so_loading done (x ∷ left) es h is = ((h, is), refl)

  so_locking : (ls : List (List ℕ)) (left : List Edit) (es : List Event) → Shown [] es → Ends_so (locking job ls left) es (by_lock actor why names (all_names left) es)
  so_locking ls [] es h = so_loading [] (first ∷ more) es h refl
  so_locking ls (x ∷ left) es h = (h, refl)

  -- an event that doesn't fail leads to a state that ends so
  abbrev Walks : State → Event → Type 0
  Walks s e = (es : List Event) → Shape s (e ∷ es) → Ends_so (after_reply job s (reply e)) es (end_from s (e ∷ es))

  as-end : (s : State) (es : List Event) (a b : Ending) → Ends_so s es a → b ≡ a → Ends_so s es b
  as-end s es a b so is = (so.0, so.1 ∙ sym is)

  skip-erase : (th : Then) (m : List ℕ) (d f : Bool) (es : List Event) → end_then th (event.Erase m d f ∷ es) ≡ end_then th es
  skip-erase GoOn m d f es = refl
  skip-erase (Answer a) m d f es = refl

  skip-unlock : (th : Then) (m : List ℕ) (t : ℕ) (d f : Bool) (es : List Event) → end_then th (event.Unlock m t d f ∷ es) ≡ end_then th es
  skip-unlock GoOn m t d f es = refl
  skip-unlock (Answer a) m t d f es = refl

  skip-publish : (th : Then) (t : ℕ) (n m : List ℕ) (d f : Bool) (es : List Event) → end_then th (event.Publish (staged_name t n) m d f ∷ es) ≡ end_then th es
  skip-publish GoOn t n m true f es = refl
  skip-publish GoOn t n m false f es = cond-false _ _ _ (false_from_ne_true _ (λ same. staged-new t n actor ((bytes_eq-Decides (staged_name t n) (new_name actor)).0 same)))
  skip-publish (Answer a) t n m d f es = refl

  shown-erase : (th : Then) (m : List ℕ) (d f : Bool) (es : List Event) → ShownThen th (event.Erase m d f ∷ es) → ShownThen th es
  shown-erase GoOn m d f es h = h
  shown-erase (Answer a) m d f es h = tt

  shown-unlock : (th : Then) (m : List ℕ) (t : ℕ) (d f : Bool) (es : List Event) → ShownThen th (event.Unlock m t d f ∷ es) → ShownThen th es
  shown-unlock GoOn m t d f es h = h
  shown-unlock (Answer a) m t d f es h = tt

  shown-publish : (th : Then) (from m : List ℕ) (d f : Bool) (es : List Event) → ShownThen th (event.Publish from m d f ∷ es) → ShownThen th es
  shown-publish GoOn from m d f es h = h
  shown-publish (Answer a) from m d f es h = tt

  w-undoing : (r : Record) (n : List ℕ) (ns ls : List (List ℕ)) (th : Then) (m : List ℕ) (d f : Bool) → f ≡ false → Walks (Undoing r n ns ls th) (event.Erase m d f)
  w-undoing r n ns ls th m d true h = absurd (cc)
  w-undoing r n ns ls th m d false h = λ es k. as-end (undoing r ns ls th) es (end_then th es) (end_then th (event.Erase m d false ∷ es))
      (so_undoing r ns ls th es (shown-erase th m d false es k)) (skip-erase th m d false es)

  w-placing : (r : Record) (x : Item) (xs : List Item) (ls : List (List ℕ)) (th : Then) (m : List ℕ) (d f : Bool) → f ≡ false
      → Walks (Placing r x xs ls th) (event.Publish (staged_name r.token x.name) m d f)
  w-placing r x xs ls th m d true h = absurd (cc)
  w-placing r x xs ls th m d false h = λ es k.
      as-end (placing r xs ls th) es (end_then th es) (end_then th (event.Publish (staged_name r.token x.name) m d false ∷ es))
      (so_placing r xs ls th es (shown-publish th (staged_name r.token x.name) m d false es k)) (skip-publish th r.token x.name m d false es)

  -- a staged file is none of the files
  shown-staged : (t : ℕ) (n : List ℕ) (c : Option (List ℕ)) (held : Bool) (es : List Event) → Shown [] (event.Load (staged_name t n) (seen.Bytes c held) ∷ es) → Shown [] es
  shown-staged t n c held es h = λ k m. h k m ∙ cond-false _ _ _ (unstaged k m t n)

  w-testing : (r : Record) (x : Item) (xs : List Item) (ls : List (List ℕ)) (s : Seen) → is_failed (event.Load (staged_name r.token x.name) s) ≡ false
      → Walks (Testing r x xs ls) (event.Load (staged_name r.token x.name) s)
  w-testing r x xs ls (seen.Bytes None held) h = λ es k. so_placing r xs ls GoOn es (shown-staged r.token x.name None held es k)
  w-testing r x xs ls (seen.Bytes (Some bytes) held) h = λ es k. so_known x.way r (record x { staged = Some bytes }) xs ls es (shown-staged r.token x.name (Some bytes) held es k)
  w-testing r x xs ls (seen.TooLarge k) h = λ es k. (tt, refl)
  w-testing r x xs ls seen.Failed h = absurd (cc)
  w-testing r x xs ls seen.Memory h = λ es k. (tt, refl)

  w-removing : (r : Record) (x : Item) (xs : List Item) (ls : List (List ℕ)) (th : Then) (m : List ℕ) (d f : Bool) → f ≡ false → Walks (Removing r x xs ls th) (event.Erase m d f)
  w-removing r x xs ls th m d true h = absurd (cc)
  w-removing r x xs ls th m d false h = λ es k. (shown-erase th m d false es k, sym (skip-erase th m d false es))

  skip-extend : (th : Then) (m : List ℕ) (at : ℕ) (tail : List ℕ) (f : Bool) (es : List Event) → end_then th (event.Extend m at tail f ∷ es) ≡ end_then th es
  skip-extend GoOn m at tail f es = refl
  skip-extend (Answer a) m at tail f es = refl

  shown-extend : (th : Then) (m : List ℕ) (at : ℕ) (tail : List ℕ) (f : Bool) (es : List Event) → ShownThen th (event.Extend m at tail f ∷ es) → ShownThen th es
  shown-extend GoOn m at tail f es h = h
  shown-extend (Answer a) m at tail f es h = tt

  w-extending : (r : Record) (x : Item) (xs : List Item) (ls : List (List ℕ)) (th : Then) (m : List ℕ) (at : ℕ) (tail : List ℕ) (f : Bool) → f ≡ false
      → Walks (Extending r x xs ls th) (event.Extend m at tail f)
  w-extending r x xs ls th m at tail true h = absurd (cc)
  w-extending r x xs ls th m at tail false h = λ es k. (shown-extend th m at tail false es k, sym (skip-extend th m at tail false es))

  w-discarding : (r : Record) (x : Item) (xs : List Item) (ls : List (List ℕ)) (th : Then) (m : List ℕ) (d f : Bool) → f ≡ false → Walks (Discarding r x xs ls th) (event.Erase m d f)
  w-discarding r x xs ls th m d true h = absurd (cc)
  w-discarding r x xs ls th m d false h = λ es k.
      as-end (placing r xs ls th) es (end_then th es) (end_then th (event.Erase m d false ∷ es)) (so_placing r xs ls th es (shown-erase th m d false es k)) (skip-erase th m d false es)

  w-unlocking : (r : Record) (n : List ℕ) (ns : List (List ℕ)) (th : Then) (m : List ℕ) (t : ℕ) (d f : Bool) → f ≡ false → Walks (Unlocking r n ns th) (event.Unlock m t d f)
  w-unlocking r n ns th m t d true h = absurd (cc)
  w-unlocking r n ns th m t d false h = λ es k.
      as-end (unlocking r ns th) es (end_then th es) (end_then th (event.Unlock m t d false ∷ es)) (so_unlocking r ns th es (shown-unlock th m t d false es k)) (skip-unlock th m t d false es)

  w-erasing : (r : Record) (th : Then) (m : List ℕ) (d f : Bool) → f ≡ false → Walks (Erasing r th) (event.Erase m d f)
  w-erasing r th m d true h = absurd (cc)
  w-erasing r GoOn m d false h = λ es k. (k, refl)
  w-erasing r (Answer a) m d false h = λ es k. (tt, refl)

  w-clearing : (x : Found) (m : List ℕ) (d f : Bool) → f ≡ false → Walks (Clearing x) (event.Erase m d f)
  w-clearing x m d true h = absurd (cc)
  w-clearing x m d false h = λ es k. (k, refl)

  w-seizing : (d f : Bool) → f ≡ false → Walks Seizing (event.Seize (right_name actor) d f)
  w-seizing d true h = absurd (cc)
  w-seizing true false h = λ es k. (k, refl)
  w-seizing false false h = λ es k. (tt, refl)

  -- the record is none of the files
  shown-record : (c : Option (List ℕ)) (held : Bool) (es : List Event) → Shown [] (event.Load (record_name actor) (seen.Bytes c held) ∷ es) → Shown [] es
  shown-record c held es h = λ n m. h n m ∙ cond-false _ _ _ (plain n m)

  w-looking : (s : Seen) → is_failed (event.Load (record_name actor) s) ≡ false → Walks Looking (event.Load (record_name actor) s)
  w-looking (seen.Bytes None held) h = λ es k. (shown-record None held es k, refl)
  w-looking (seen.Bytes (Some bytes) held) h = λ es k. so_seen (record_of bytes) es (shown-record (Some bytes) held es k)
  w-looking (seen.TooLarge n) h = λ es k. (tt, refl)
  w-looking seen.Failed h = absurd (cc)
  w-looking seen.Memory h = λ es k. (tt, refl)

  w-preparing : (m : List ℕ) (c : Option (List ℕ)) (f : Bool) → f ≡ false → Walks Preparing (event.Stage m c f)
  w-preparing m c true h = absurd (cc)
  w-preparing m c false h = λ es k. (k, refl)

  w-publishing : (m : List ℕ) (d f : Bool) → f ≡ false → Walks Publishing (event.Publish (new_name actor) m d f)
  w-publishing m d true h = absurd (cc)
  w-publishing m true false h = λ es k. (k, refl)
  w-publishing m false false h = λ es k. (tt, sym (cond-true _ _ _ ((bytes_eq-Decides (new_name actor) (new_name actor)).1 refl)))

  w-locking : (ls : List (List ℕ)) (x : Edit) (left : List Edit) (t : ℕ) (d f : Bool) → f ≡ false → Walks (Locking ls x left) (event.Lock x.name t d f)
  w-locking ls x left t d true h = absurd (cc)
  w-locking ls x left t true false h = λ es k. so_locking (ls ++ x.name ∷ []) left es k
  w-locking ls x left t false false h = λ es k. so_refusing [] ls (Refused (Busy x.name)) es

  loaded-so : (done : List Made) (x : Edit) (left : List Edit) (c : Option (List ℕ)) (es : List Event) → Shown (done ++ made_by x c (x.by c) ∷ []) es
      → made_names done ++ all_names (x ∷ left) ≡ names → Ends_so (loaded job done x left c (x.by c)) es (by_load actor why (all_names left) es)
  loaded-so done x left c es h is =
      let y = made_by x c (x.by c) in
      subst (λ (s : State). Ends_so s es (by_load actor why (all_names left) es)) (sym (loaded-by job done x left c (x.by c)))
      (so_loading (done ++ y ∷ []) left es h (names-more done y (all_names left) ∙ is))

  w-loading : (done : List Made) (x : Edit) (left : List Edit) (s : Seen) → is_failed (event.Load x.name s) ≡ false → Walks (Loading done x left) (event.Load x.name s)
  w-loading done x left (seen.Bytes c held) h = λ es k. loaded-so done x left c es (λ n m. k.0 n m ∙ one-more done (made_by x c (x.by c)) n (seen_in es n)) k.1
  w-loading done x left (seen.TooLarge n) h = λ es k. so_refusing [] names (Refused (TooLarge x.name n)) es
  w-loading done x left seen.Failed h = absurd (cc)
  w-loading done x left seen.Memory h = λ es k. so_refusing [] names NoMemory es

  w-staging : (ns : List (List ℕ)) (done : List Made) (x : Made) (left : List Made) (m : List ℕ) (c : Option (List ℕ)) (f : Bool) → f ≡ false → Walks (Staging ns done x left) (event.Stage m c f)
  w-staging ns done x left m c true h = absurd (cc)
  w-staging ns done x left m c false h = λ es k. so_staging (ns ++ x.edit.name ∷ []) done left es

  w-deciding : (done : List Made) (m : List ℕ) (c : Option (List ℕ)) (f : Bool) → f ≡ false → Walks (Deciding done) (event.Stage m c f)
  w-deciding done m c true h = absurd (cc)
  w-deciding done m c false h = λ es k. (tt, refl)

  -- what is published is the record that was made
  decision-here : (m : List ℕ) (d f : Bool) (es : List Event) → by_decision actor (event.Publish (new_name actor) m d f ∷ es) ≡ (if d then Done else Refused NotARecord)
  decision-here m d f es = cond-true _ _ _ ((bytes_eq-Decides (new_name actor) (new_name actor)).1 refl)

  w-committing : (made : List Made) (m : List ℕ) (d f : Bool) → f ≡ false → Walks (Committing made) (event.Publish (new_name actor) m d f)
  w-committing made m d true h = absurd (cc)
  w-committing made m true false h = λ es k. as-end (placing (go_of job made) (made_items job made) names (Answer Done)) es Done
      (by_decision actor (event.Publish (new_name actor) m true false ∷ es)) (so_placing (go_of job made) (made_items job made) names (Answer Done) es tt) (decision-here m true false es)
  w-committing made m false false h = λ es k. (tt, sym (decision-here m false false es))

  -- an event that is this one and hasn't failed
  same-failed : (e x : Event) → e ≡ x → is_failed e ≡ false → is_failed x ≡ false
  same-failed e x p h = ap is_failed (sym p) ∙ h

  walks : (s : State) (e : Event) → IsNext (next job s) e → is_failed e ≡ false → Walks s e
  walks Seizing e is h = let w = seize-is (right_name actor) e is in subst (Walks Seizing) (sym w.2) (w-seizing w.0 w.1 (same-failed e _ w.2 h))
  walks (Timing at) e is h = subst (Walks (Timing at)) (sym (ask-is at e is)) (λ es k. (k, refl))
  walks Looking e is h = let w = load-is (record_name actor) e is in subst (Walks Looking) (sym w.1) (w-looking w.0 (same-failed e _ w.1 h))
  walks (Undoing r n ns ls th) e is h = let w = erase-is (staged_name r.token n) e is in
      subst (Walks (Undoing r n ns ls th)) (sym w.2) (w-undoing r n ns ls th (staged_name r.token n) w.0 w.1 (same-failed e _ w.2 h))
  walks (Placing r x xs ls th) e is h = let w = publish-is (staged_name r.token x.name) x.name e is in
      subst (Walks (Placing r x xs ls th)) (sym w.2) (w-placing r x xs ls th x.name w.0 w.1 (same-failed e _ w.2 h))
  walks (Testing r x xs ls) e is h = let w = load-is (staged_name r.token x.name) e is in subst (Walks (Testing r x xs ls)) (sym w.1) (w-testing r x xs ls w.0 (same-failed e _ w.1 h))
  walks (Removing r x xs ls th) e is h = let w = erase-is x.name e is in subst (Walks (Removing r x xs ls th)) (sym w.2) (w-removing r x xs ls th x.name w.0 w.1 (same-failed e _ w.2 h))
  walks (Extending r x xs ls th) e is h = let w = extend-is x.name (stay x.way) (bytes_of x.staged) e is in
      subst (Walks (Extending r x xs ls th)) (sym w.2) (w-extending r x xs ls th x.name (stay x.way) w.0 w.1 (same-failed e _ w.2 h))
  walks (Discarding r x xs ls th) e is h = let w = erase-is (staged_name r.token x.name) e is in
      subst (Walks (Discarding r x xs ls th)) (sym w.2) (w-discarding r x xs ls th (staged_name r.token x.name) w.0 w.1 (same-failed e _ w.2 h))
  walks (Unlocking r n ns th) e is h = let w = unlock-is n r.token e is in subst (Walks (Unlocking r n ns th)) (sym w.2) (w-unlocking r n ns th n r.token w.0 w.1 (same-failed e _ w.2 h))
  walks (Erasing r th) e is h = let w = erase-is (record_name actor) e is in subst (Walks (Erasing r th)) (sym w.2) (w-erasing r th (record_name actor) w.0 w.1 (same-failed e _ w.2 h))
  walks (Clearing f) e is h = let w = erase-is (new_name actor) e is in subst (Walks (Clearing f)) (sym w.2) (w-clearing f (new_name actor) w.0 w.1 (same-failed e _ w.2 h))
  walks Preparing e is h = let w = stage-is (new_name actor) (written (prepare_of job)) e is in subst (Walks Preparing) (sym w.2) (w-preparing (new_name actor) w.0 w.1 (same-failed e _ w.2 h))
  walks Publishing e is h = let w = publish-is (new_name actor) (record_name actor) e is in subst (Walks Publishing) (sym w.2) (w-publishing (record_name actor) w.0 w.1 (same-failed e _ w.2 h))
  walks (Locking ls x left) e is h = let w = lock-is x.name token e is in subst (Walks (Locking ls x left)) (sym w.2) (w-locking ls x left token w.0 w.1 (same-failed e _ w.2 h))
  walks (Loading done x left) e is h = let w = load-is x.name e is in subst (Walks (Loading done x left)) (sym w.1) (w-loading done x left w.0 (same-failed e _ w.1 h))
  walks (Staging ns done x left) e is h = let w = stage-is (staged_name token x.edit.name) x.content e is in
      subst (Walks (Staging ns done x left)) (sym w.2) (w-staging ns done x left (staged_name token x.edit.name) w.0 w.1 (same-failed e _ w.2 h))
  walks (Deciding done) e is h = let w = stage-is (new_name actor) (written (go_of job done)) e is in
      subst (Walks (Deciding done)) (sym w.2) (w-deciding done (new_name actor) w.0 w.1 (same-failed e _ w.2 h))
  walks (Committing made) e is h = let w = publish-is (new_name actor) (record_name actor) e is in
      subst (Walks (Committing made)) (sym w.2) (w-committing made (record_name actor) w.0 w.1 (same-failed e _ w.2 h))
  walks Checking e is h = λ es k. absurd k
  walks (Releasing a) e is h = subst (Walks (Releasing a)) (sym (release-is (right_name actor) e is)) (λ es k. (tt, refl))
  walks (Ended a) e is h = absurd is

  -- a clean-up is told of as running out of memory, wherever it begins
  quiet-decision : (es : List Event) → AllQuiet es → by_decision actor es ≡ NoMemory
  quiet-decision [] q = refl
  quiet-decision (event.Erase m d f ∷ es) q = quiet-decision es q.1
  quiet-decision (event.Unlock m t d f ∷ es) q = quiet-decision es q.1
  quiet-decision (event.Release m ∷ es) q = quiet-decision es q.1
  quiet-decision (e ∷ es) q = let h = q.0 in absurd (cc)

  quiet-lock : (n : List ℕ) (ns : List (List ℕ)) (es : List Event) → AllQuiet es → by_lock actor why names (n ∷ ns) es ≡ NoMemory
  quiet-lock n ns [] q = refl
  quiet-lock n ns (event.Erase m d f ∷ es) q = quiet-lock n ns es q.1
  quiet-lock n ns (event.Unlock m t d f ∷ es) q = quiet-lock n ns es q.1
  quiet-lock n ns (event.Release m ∷ es) q = quiet-lock n ns es q.1
  quiet-lock n ns (event.Load m s ∷ es) q = let h = q.0 in absurd (cc)
  quiet-lock n ns (e ∷ es) q = let h = q.0 in absurd (cc)

  quiet-load : (n : List ℕ) (ns : List (List ℕ)) (es : List Event) → AllQuiet es → by_load actor why (n ∷ ns) es ≡ NoMemory
  quiet-load n ns (event.Load m s ∷ es) q = let h = q.0 in absurd (cc)
  quiet-load n ns [] q = refl
  quiet-load n ns (e ∷ es) q = refl

  quiet-record : (es : List Event) → AllQuiet es → by_record actor why names es ≡ NoMemory
  quiet-record (event.Load m s ∷ es) q = let h = q.0 in absurd (cc)
  quiet-record [] q = refl
  quiet-record (e ∷ es) q = refl

  quiet-time : (es : List Event) → AllQuiet es → by_time actor why names es ≡ NoMemory
  quiet-time (event.Now t ∷ es) q = let h = q.0 in absurd (cc)
  quiet-time [] q = refl
  quiet-time (e ∷ es) q = refl

  quiet-right : (es : List Event) → AllQuiet es → by_right actor why names es ≡ NoMemory
  quiet-right (event.Seize m d f ∷ es) q = let h = q.0 in absurd (cc)
  quiet-right [] q = refl
  quiet-right (e ∷ es) q = refl

  -- memory runs out in place of a call: the end by the events is that of the clean-up
  abbrev Wants : State → Type 0
  Wants s = (es : List Event) (end : Ending) → Goes job (refused job s) es (Ended end) → Shape s es → Ends_so (refused job s) es (end_from s es)

  -- the state goes over to a clean-up
  wants-clean : (s : State) (ns ls : List (List ℕ)) → refused job s ≡ refusing job ns ls NoMemory → ((es : List Event) → AllQuiet es → end_from s es ≡ NoMemory) → Wants s
  wants-clean s ns ls is quiet es end goes k =
      let W : State → Type 0 = λ t. Goes job t es (Ended end) → Ends_so t es (end_from s es) in
      subst W (sym is) (λ there. as-end (refusing job ns ls NoMemory) es NoMemory (end_from s es) (so_refusing ns ls NoMemory es)
      (quiet es (all-quiet job es (refusing job ns ls NoMemory) (Ended end) (cleans-refusing job ns ls NoMemory) there))) goes

  wants-end : (es : List Event) (end : Ending) → Goes job (Releasing NoMemory) es (Ended end) → Ends_so (Releasing NoMemory) es (locks_from es)
  wants-end es end goes = (tt, sym (quiet-lock first.name (all_names more) es (all-quiet job es (Releasing NoMemory) (Ended end) tt goes)))

  wants : (s : State) → Wants s
  wants Seizing es end goes k = (tt, sym (quiet-right es (all-quiet job es (Ended NoMemory) (Ended end) tt goes)))
  wants (Timing at) es end goes k = (tt, sym (quiet-time es (all-quiet job es (Releasing NoMemory) (Ended end) tt goes)))
  wants Looking es end goes k = (tt, sym (quiet-record es (all-quiet job es (Releasing NoMemory) (Ended end) tt goes)))
  wants (Undoing r n ns ls GoOn) es end goes k = wants-end es end goes
  wants (Undoing r n ns ls (Answer a)) es end goes k = (tt, refl)
  wants (Placing r x xs ls GoOn) es end goes k = wants-end es end goes
  wants (Placing r x xs ls (Answer a)) es end goes k = (tt, refl)
  wants (Testing r x xs ls) es end goes k = wants-end es end goes
  wants (Removing r x xs ls GoOn) es end goes k = wants-end es end goes
  wants (Extending r x xs ls GoOn) es end goes k = wants-end es end goes
  wants (Removing r x xs ls (Answer a)) es end goes k = (tt, refl)
  wants (Extending r x xs ls (Answer a)) es end goes k = (tt, refl)
  wants (Discarding r x xs ls GoOn) es end goes k = wants-end es end goes
  wants (Discarding r x xs ls (Answer a)) es end goes k = (tt, refl)
  wants (Unlocking r n ns GoOn) es end goes k = wants-end es end goes
  wants (Unlocking r n ns (Answer a)) es end goes k = (tt, refl)
  wants (Erasing r GoOn) es end goes k = wants-end es end goes
  wants (Erasing r (Answer a)) es end goes k = (tt, refl)
  wants (Clearing f) es end goes k = wants-end es end goes
  wants Preparing es end goes k = wants-end es end goes
  wants Publishing es end goes k = wants-end es end goes
  wants (Locking ls x left) es end goes k = wants-clean (Locking ls x left) [] ls refl (quiet-lock x.name (all_names left)) es end goes k
  wants (Loading done x left) es end goes k = wants-clean (Loading done x left) [] (all_of job) refl (quiet-load x.name (all_names left)) es end goes k
  wants (Staging ns done x left) es end goes k = wants-clean (Staging ns done x left) ns (all_of job) refl quiet-decision es end goes k
  wants (Deciding done) es end goes k = wants-clean (Deciding done) (all_of job) (all_of job) refl quiet-decision es end goes k
  wants (Committing done) es end goes k = wants-clean (Committing done) (all_of job) (all_of job) refl quiet-decision es end goes k
  wants Checking es end goes k = absurd k
  wants (Releasing a) es end goes k = (tt, refl)
  wants (Ended a) es end goes k = (tt, refl)

  at-end : (s : State) (end : Ending) → Shape s [] → (s ≡ Ended end) ⊎ (refused job s ≡ Ended end) → end_from s [] ≡ end
  at-end s end k (inl p) = ap (λ (t : State). end_from t []) p
  at-end s end k (inr p) = sym (wants s [] end (inl p) k).1 ∙ ap (λ (t : State). end_from t []) p

  -- where no call failed, the end is that by the events
  walk : (es : List Event) (s : State) (end : Ending) → list_any is_failed es ≡ false → Goes job s es (Ended end) → Shape s es → end_from s es ≡ end
  walk [] s end h goes k = at-end s end k goes
  walk (e ∷ es) s end h (now, from, is, later) k =
      let hs = or_parts (is_failed e) (list_any is_failed es) h in
      let at : Shape now (e ∷ es) → end_from now (e ∷ es) ≡ end = λ kn. let w = walks now e is hs.0 es kn in sym w.1 ∙ walk es (after_reply job now (reply e)) end hs.1 later w.0 in
      elim from [
        | inl p ↦ subst (λ (t : State). end_from t (e ∷ es) ≡ end) p (at (subst (λ (t : State). Shape t (e ∷ es)) (sym p) k))
        | inr p ↦
            let w = wants s (e ∷ es) end (now, inl p, is, later) k in
            sym w.1 ∙ subst (λ (t : State). end_from t (e ∷ es) ≡ end) p (at (subst (λ (t : State). Shape t (e ∷ es)) (sym p) w.0))
      ]

  pub ends-told : (es : List Event) (result : Result Unit CommitError) (end : Ending) → AnswersAs names result end → Goes job Seizing es (Ended end)
      → TellsFaults es result → Shown [] es → TellsEnd names (by_right actor why names es) result
  ends-told es (Ok u) end is goes f k = walk es Seizing end f goes k ∙ is
  ends-told es (Err (error.Busy n)) end is goes f k = walk es Seizing end f goes k ∙ is
  ends-told es (Err error.Record) end is goes f k = walk es Seizing end f goes k ∙ is
  ends-told es (Err (error.Changed n at)) end is goes f k = walk es Seizing end f goes k ∙ is
  ends-told es (Err (error.TooLarge n m)) end is goes f k = walk es Seizing end f goes k ∙ is
  ends-told es (Err (error.Disk p)) end is goes f k = tt
  ends-told es (Err error.Memory) end is goes f k = subst (WantedAs names) (sym (walk es Seizing end f goes k)) is
  ends-told es (Err (error.TooManyNames n)) end is goes f k = absurd is
