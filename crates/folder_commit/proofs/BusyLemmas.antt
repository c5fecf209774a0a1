-- Whose right or lock another had, and that a commit which nothing hinders is done.
use Rattle.std.proofs.Common.{◌≡◌, ◌⊎◌, ℕ, ℤ, Bool, true, false, List, [], ◌∷◌, ◌++◌, Option, Some, None, if◌then◌else◌, refl, ap, sym, subst, inl, inr, ◌∙◌}
use Rattle.std.specs.List.{list_any}
use Rattle.std.specs.Option.{option_map}
use Rattle.std.specs.Str.{bytes_eq}
use Rattle.std.specs.declared.result.Result.{Result}
use Rattle.std.specs.declared.result.Result.TheVariants.{Ok, Err}
use Rattle.std.proofs.lemmas.Bool.{cases_Bool}
use Rattle.std.proofs.lemmas.Slice.Eq.{bytes_eq-Decides}
use Rattle.host_port.specs.declared.event.Event.{Event}
use Rattle.host_port.specs.declared.event.Event.TheVariants as event
use Rattle.host_port.specs.declared.event.Seen.{Seen}
use Rattle.host_port.specs.declared.event.Seen.TheVariants as seen
use Rattle.host_port.specs.Calls.{Counts, Rose}
use Rattle.host_port.specs.Disk.{Disk}
use Rattle.host_port.specs.Own.{own}
use Rattle.folder_change.specs.declared.change.Change.{Change}
use Rattle.commit_machine.specs.Refusals.{ChangeRefusal, ChangedAt, TooLong, first_refusal}
use Rattle.commit_record.specs.declared.record.Record.{Record}
use Rattle.commit_machine.specs.Names.{record_name, new_name, right_name}
use Rattle.commit_machine.specs.Records.{record_of}
use Rattle.commit_machine.specs.Settled.{Files, Mem}
use Rattle.commit_machine.specs.Jobs.{Refusal, Busy, NotARecord, Ending, Done, Refused, NoMemory, Job, IsJob}
use Rattle.commit_machine.specs.Machine.{State, Seizing, Timing, Looking, Ended, asking, next, after_reply}
use Rattle.commit_machine.specs.Goes.{IsNext, Goes, reply}
use Rattle.commit_machine.specs.Edits.{first_names, cause_of, job_for, timed_for}
use Rattle.commit_machine.specs.Restraints.{is_failed}
use Rattle.commit_machine.specs.Runs.{MetAnother, is_hindrance, RunsSafely}
use Rattle.commit_machine.proofs.told.Events.{own-split, or-parts, none-of, some-of}
use Rattle.folder_commit.specs.declared.error.CommitError.{CommitError}
use Rattle.folder_commit.specs.declared.error.CommitError.TheVariants as error
use Rattle.folder_commit.specs.Ends.{Commits, CommitCause}
use Rattle.folder_commit.specs.Told.{by_decision, by_changes, by_load, by_lock, by_standing, by_record, by_time, by_right, seen_in, end_told, is_fault, TellsEnd}
use Rattle.folder_commit.specs.Safe.{IsOkOrMemory, IsComplete}
use Rattle.folder_commit.proofs.CleanLemmas.{ask-is, seize-is, load-is, release-is}
use Rattle.folder_commit.proofs.ToldLemmas.{tells-faults}
use Rattle.folder_commit.proofs.TellLemmas.{end-told}

-- a seizure or a lock of this name was answered false
abbrev Met : List ℕ → List Event → Type 0
Met name es = ((failed : Bool) × Mem (event.Seize name false failed) es) ⊎ ((t : ℕ) × (failed : Bool) × Mem (event.Lock name t false failed) es)

met-more : (name : List ℕ) (e : Event) (es : List Event) → Met name es → Met name (e ∷ es)
met-more name e es (inl h) = inl (h.0, inr h.1)
met-more name e es (inr h) = inr (h.0, h.1, inr h.2)

same-busy : (m name : List ℕ) → Refused (Busy m) ≡ Refused (Busy name) → name ≡ m
same-busy m name h = cc

module _ (actor name : List ℕ) where
  -- an end that tells of another's right or lock
  abbrev IsBusy : Ending → Type 0
  IsBusy end = end ≡ Refused (Busy name)

  decision-not : (es : List Event) → IsBusy (by_decision actor es) → ⊥
  decision-not [] h = absurd (cc)
  decision-not (event.Publish from to done failed ∷ es) h = go (bytes_eq from (new_name actor)) done h (λ l. decision-not es l)
    where
      go : (a b : Bool) → IsBusy (if a then (if b then Done else Refused NotARecord) else by_decision actor es) → (IsBusy (by_decision actor es) → ⊥) → ⊥
      go true true h later = absurd (cc)
      go true false h later = absurd (cc)
      go false b h later = later h
  decision-not (e ∷ es) h = decision-not es h

  changes-not : (o : Option ChangeRefusal) (es : List Event) → IsBusy (by_changes (option_map cause_of o) (by_decision actor es)) → ⊥
  changes-not None es h = decision-not es h
  changes-not (Some (ChangedAt n at)) es h = absurd (cc)
  changes-not (Some (TooLong n k)) es h = absurd (cc)

  module _ (o : Option ChangeRefusal) where
    abbrev why : Option Refusal
    why = option_map cause_of o

    load-not : (left : List (List ℕ)) (es : List Event) → IsBusy (by_load actor why left es) → ⊥
    load-not [] es h = changes-not o es h
    load-not (n ∷ left) (event.Load m (seen.Bytes c held) ∷ es) h = load-not left es h
    load-not (n ∷ left) (event.Load m (seen.TooLarge k) ∷ es) h = absurd (cc)
    load-not (n ∷ left) [] h = absurd (cc)
    load-not (n ∷ left) (e ∷ es) h = absurd (cc)

    lock-met : (names left : List (List ℕ)) (es : List Event) → IsBusy (by_lock actor why names left es) → Met name es
    lock-met names [] es h = absurd (load-not names es h)
    lock-met names (n ∷ left) [] h = absurd (cc)
    lock-met names (n ∷ left) (event.Lock m t true failed ∷ es) h = met-more name (event.Lock m t true failed) es (lock-met names left es h)
    lock-met names (n ∷ left) (event.Lock m t false failed ∷ es) h = inr (t, failed, inl (ap (λ (x : List ℕ). event.Lock x t false failed) (same-busy m name h)))
    lock-met names (n ∷ left) (event.Publish from to false failed ∷ es) h =
        go (bytes_eq from (new_name actor)) h (λ l. met-more name (event.Publish from to false failed) es (lock-met names (n ∷ left) es l))
      where
        go : (a : Bool) → IsBusy (if a then Refused NotARecord else by_lock actor why names (n ∷ left) es)
            → (IsBusy (by_lock actor why names (n ∷ left) es) → Met name (event.Publish from to false failed ∷ es)) → Met name (event.Publish from to false failed ∷ es)
        go true h later = absurd (cc)
        go false h later = later h
    lock-met names (n ∷ left) (event.Load m (seen.TooLarge k) ∷ es) h = absurd (cc)
    lock-met names (n ∷ left) (event.Load m seen.Memory ∷ es) h = absurd (cc)
    lock-met names (n ∷ left) (e ∷ es) h = met-more name e es (lock-met names (n ∷ left) es h)

    standing-met : (r : Option Record) (names : List (List ℕ)) (es : List Event) → IsBusy (by_standing r (by_lock actor why names names es)) → Met name es
    standing-met None names es h = absurd (cc)
    standing-met (Some r) names es h = lock-met names names es h

    record-met : (names : List (List ℕ)) (es : List Event) → IsBusy (by_record actor why names es) → Met name es
    record-met names (event.Load m (seen.Bytes None held) ∷ es) h = met-more name (event.Load m (seen.Bytes None held)) es (lock-met names names es h)
    record-met names (event.Load m (seen.Bytes (Some bytes) held) ∷ es) h = met-more name (event.Load m (seen.Bytes (Some bytes) held)) es (standing-met (record_of bytes) names es h)
    record-met names (event.Load m (seen.TooLarge k) ∷ es) h = absurd (cc)
    record-met names [] h = absurd (cc)
    record-met names (e ∷ es) h = absurd (cc)

    time-met : (names : List (List ℕ)) (es : List Event) → IsBusy (by_time actor why names es) → Met name es
    time-met names (event.Now t ∷ es) h = met-more name (event.Now t) es (record-met names es h)
    time-met names [] h = absurd (cc)
    time-met names (e ∷ es) h = absurd (cc)

    right-met : (names : List (List ℕ)) (es : List Event) → IsBusy (by_right actor why names es) → Met name es
    right-met names (event.Seize m true failed ∷ es) h = met-more name (event.Seize m true failed) es (time-met names es h)
    right-met names (event.Seize m false failed ∷ es) h = inl (failed, inl (ap (λ (x : List ℕ). event.Seize x false failed) (same-busy m name h)))
    right-met names [] h = absurd (cc)
    right-met names (e ∷ es) h = absurd (cc)

module _ (make : Files → Files) (actor : List ℕ) (token : ℕ) (time : ℤ) (c : Change) (cs : List Change) (base : List (List ℕ)) (d : Disk)
    (es : List Event) (job : IsJob (timed_for actor token time (c ∷ cs) base)) (safe : RunsSafely make (job_for actor token (c ∷ cs) base) d es) where
  abbrev j : Job
  j = timed_for actor token time (c ∷ cs) base

  module _ (name : List ℕ) (h : Commits (timed_for actor token time (c ∷ cs) base) (own es) (Err (error.Busy name))) where
    no-faults : list_any is_failed (own es) ≡ false
    no-faults = tells-faults j (own es) (Err (error.Busy name)) h

    busy-told : end_told actor (c ∷ cs) base (own es) ≡ Refused (Busy name)
    busy-told = end-told actor token time c cs base job (own es) (Err (error.Busy name)) h no-faults

    seized : (failed : Bool) → Mem (event.Seize name false failed) (own es) → MetAnother token d es name
    seized true m = let w : true ≡ false = none-of is_failed (own es) (event.Seize name false true) no-faults m in absurd (cc)
    seized false m = let w = own-split es (event.Seize name false false) m in (w.0, w.1, inl (w.2, safe.kept_out w.0 w.1 name w.2))

    locked : (t : ℕ) (failed : Bool) → Mem (event.Lock name t false failed) (own es) → MetAnother token d es name
    locked t true m = let w : true ≡ false = none-of is_failed (own es) (event.Lock name t false true) no-faults m in absurd (cc)
    locked t false m = let w = own-split es (event.Lock name t false false) m in (w.0, w.1, inr (t, w.2, safe.locked_out w.0 w.1 name t w.2))

    by-met : Met name (own es) → MetAnother token d es name
    by-met (inl m) = seized m.0 m.1
    by-met (inr m) = locked m.0 m.1 m.2

    -- a name that is answered as busy was another's
    pub busy-met : MetAnother token d es name
    busy-met = by-met (right-met actor name (first_refusal (c ∷ cs) base (seen_in (own es))) (first_names (c ∷ cs)) (own es) busy-told)

-- the record that was made isn't published, though no call failed
abbrev is_unpublished : List ℕ → Event → Bool
is_unpublished actor (event.Publish from to false failed) = bytes_eq from (new_name actor)
is_unpublished actor e = false

-- an end without a refusal
abbrev IsFine : Ending → Type 0
IsFine Done = Unit {0}
IsFine NoMemory = Unit {0}
IsFine e = ⊥

module _ (actor : List ℕ) where
  abbrev Free : List Event → Type 0
  Free es = list_any (is_hindrance actor) es ≡ false

  abbrev Made : List Event → Type 0
  Made es = list_any (is_unpublished actor) es ≡ false

  free-more : (e : Event) (es : List Event) → Free (e ∷ es) → Free es
  free-more e es h = (or-parts (is_hindrance actor e) (list_any (is_hindrance actor) es) h).1

  made-more : (e : Event) (es : List Event) → Made (e ∷ es) → Made es
  made-more e es h = (or-parts (is_unpublished actor e) (list_any (is_unpublished actor) es) h).1

  -- the record that was made isn't at this name
  not-new : (from to : List ℕ) (failed : Bool) (es : List Event) → Made (event.Publish from to false failed ∷ es) → bytes_eq from (new_name actor) ≡ false
  not-new from to failed es h = (or-parts (bytes_eq from (new_name actor)) (list_any (is_unpublished actor) es) h).0

  decision-fine : (es : List Event) → Made es → IsFine (by_decision actor es)
  decision-fine [] p = tt
  decision-fine (event.Publish from to true failed ∷ es) p = go (bytes_eq from (new_name actor)) (decision-fine es (made-more (event.Publish from to true failed) es p))
    where
      go : (a : Bool) → IsFine (by_decision actor es) → IsFine (if a then Done else by_decision actor es)
      go true later = tt
      go false later = later
  decision-fine (event.Publish from to false failed ∷ es) p = rw (not-new from to failed es p) (decision-fine es (made-more (event.Publish from to false failed) es p))
  decision-fine (e ∷ es) p = decision-fine es (made-more e es p)

  load-fine : (left : List (List ℕ)) (es : List Event) → Free es → Made es → IsFine (by_load actor None left es)
  load-fine [] es h p = decision-fine es p
  load-fine (n ∷ left) (event.Load m (seen.Bytes c held) ∷ es) h p = load-fine left es (free-more (event.Load m (seen.Bytes c held)) es h) (made-more (event.Load m (seen.Bytes c held)) es p)
  load-fine (n ∷ left) (event.Load m (seen.TooLarge k) ∷ es) h p = absurd (cc)
  load-fine (n ∷ left) [] h p = tt
  load-fine (n ∷ left) (e ∷ es) h p = tt

  lock-fine : (names left : List (List ℕ)) (es : List Event) → Free es → Made es → IsFine (by_lock actor None names left es)
  lock-fine names [] es h p = load-fine names es h p
  lock-fine names (n ∷ left) [] h p = tt
  lock-fine names (n ∷ left) (event.Lock m t true failed ∷ es) h p = lock-fine names left es (free-more (event.Lock m t true failed) es h) (made-more (event.Lock m t true failed) es p)
  lock-fine names (n ∷ left) (event.Lock m t false failed ∷ es) h p = absurd (cc)
  lock-fine names (n ∷ left) (event.Load m (seen.TooLarge k) ∷ es) h p = absurd (cc)
  lock-fine names (n ∷ left) (event.Load m seen.Memory ∷ es) h p = tt
  lock-fine names (n ∷ left) (event.Publish from to false failed ∷ es) h p =
      rw (not-new from to failed es p) (lock-fine names (n ∷ left) es (free-more (event.Publish from to false failed) es h) (made-more (event.Publish from to false failed) es p))
  lock-fine names (n ∷ left) (e ∷ es) h p = lock-fine names (n ∷ left) es (free-more e es h) (made-more e es p)

  -- the load of the record
  record-fine : (names : List (List ℕ)) (s : Seen) (es : List Event) → Free (event.Load (record_name actor) s ∷ es) → Made es
      → IsFine (by_record actor None names (event.Load (record_name actor) s ∷ es))
  record-fine names (seen.Bytes None held) es h p = lock-fine names names es h p
  record-fine names (seen.Bytes (Some bytes) held) es h p = go (record_of bytes) refl
    where
      e : Event
      e = event.Load (record_name actor) (seen.Bytes (Some bytes) held)

      same : bytes_eq (record_name actor) (record_name actor) ≡ true
      same = (bytes_eq-Decides (record_name actor) (record_name actor)).1 refl

      none : record_of bytes ≡ None → is_hindrance actor e ≡ true
      none is = rw (same, is) refl

      go : (o : Option Record) → record_of bytes ≡ o → IsFine (by_standing o (by_lock actor None names names es))
      go (Some r) is = lock-fine names names es (free-more e es h) p
      go None is = let w = none is in let v = (or-parts (is_hindrance actor e) (list_any (is_hindrance actor) es) h).0 in absurd (cc)
  record-fine names (seen.TooLarge k) es h p = absurd (cc)
  record-fine names s es h p = tt

module _ (j : Job) where
  -- once the right is taken the record is loaded first
  looks-fine : (names : List (List ℕ)) (es : List Event) (last : State) → Goes j Looking es last → Free j.actor es → Made j.actor es → IsFine (by_record j.actor None names es)
  looks-fine names [] last goes h p = tt
  looks-fine names (e ∷ es) last (now, inl at, is, more) h p =
      let w = load-is (record_name j.actor) e (subst (λ (s : State). IsNext (next j s) e) at is) in
      let F : Event → Type 0 = λ x. Free j.actor (x ∷ es) → IsFine (by_record j.actor None names (x ∷ es)) in
      subst F (sym w.1) (λ f. record-fine j.actor names w.0 es f (made-more j.actor e es p)) h
  looks-fine names (e ∷ es) last (now, inr at, is, more) h p =
      let w = release-is (right_name j.actor) e (subst (λ (s : State). IsNext (next j s) e) at is) in
      subst (λ (x : Event). IsFine (by_record j.actor None names (x ∷ es))) (sym w) tt

  -- then the time is asked for
  time-fine : (o : Option ℤ) (names : List (List ℕ)) (es : List Event) (last : State) → Goes j (asking o) es last → Free j.actor es → Made j.actor es → IsFine (by_time j.actor None names es)
  time-fine o names [] last goes h p = tt
  time-fine None names (e ∷ es) last (now, inl at, is, more) h p =
      let w = load-is (record_name j.actor) e (subst (λ (s : State). IsNext (next j s) e) at is) in
      subst (λ (x : Event). IsFine (by_time j.actor None names (x ∷ es))) (sym w.1) tt
  time-fine None names (e ∷ es) last (now, inr at, is, more) h p =
      let w = release-is (right_name j.actor) e (subst (λ (s : State). IsNext (next j s) e) at is) in
      subst (λ (x : Event). IsFine (by_time j.actor None names (x ∷ es))) (sym w) tt
  time-fine (Some time) names (e ∷ es) last (now, inl at, is, more) h p =
      let w = ask-is time e (subst (λ (s : State). IsNext (next j s) e) at is) in
      let there : Goes j (after_reply j (Timing time) (reply e)) es last = subst (λ (s : State). Goes j (after_reply j s (reply e)) es last) at more in
      let asked : Goes j Looking es last = subst (λ (x : Event). Goes j (after_reply j (Timing time) (reply x)) es last) w there in
      subst (λ (x : Event). IsFine (by_time j.actor None names (x ∷ es))) (sym w) (looks-fine names es last asked (free-more j.actor e es h) (made-more j.actor e es p))
  time-fine (Some time) names (e ∷ es) last (now, inr at, is, more) h p =
      let w = release-is (right_name j.actor) e (subst (λ (s : State). IsNext (next j s) e) at is) in
      subst (λ (x : Event). IsFine (by_time j.actor None names (x ∷ es))) (sym w) tt

  right-fine : (names : List (List ℕ)) (es : List Event) (last : State) → list_any is_failed es ≡ false → Goes j Seizing es last → Free j.actor es
      → Made j.actor es → IsFine (by_right j.actor None names es)
  right-fine names [] last f goes h p = tt
  right-fine names (e ∷ es) last f (now, inr at, is, more) h p = absurd (subst (λ (s : State). IsNext (next j s) e) at is)
  right-fine names (e ∷ es) last f (now, inl at, is, more) h p =
      let w = seize-is (right_name j.actor) e (subst (λ (s : State). IsNext (next j s) e) at is) in
      let there : Goes j (after_reply j Seizing (reply e)) es last = subst (λ (s : State). Goes j (after_reply j s (reply e)) es last) at more in
      let F : Event → Type 0 = λ x. list_any is_failed (x ∷ es) ≡ false → Free j.actor (x ∷ es) → Goes j (after_reply j Seizing (reply x)) es last → IsFine (by_right j.actor None names (x ∷ es)) in
      subst F (sym w.2) (go w.0 w.1) f h there
    where
      go : (got failed : Bool) → list_any is_failed (event.Seize (right_name j.actor) got failed ∷ es) ≡ false
          → Free j.actor (event.Seize (right_name j.actor) got failed ∷ es) → Goes j (after_reply j Seizing (reply (event.Seize (right_name j.actor) got failed))) es last
          → IsFine (by_right j.actor None names (event.Seize (right_name j.actor) got failed ∷ es))
      go got true f h goes = absurd (cc)
      go false false f h goes = absurd (cc)
      go true false f h goes = time-fine j.time names es last goes h (made-more j.actor e es p)

-- no refusal is told of an end without one
fine-told : (files : List (List ℕ)) (end : Ending) (result : Result Unit CommitError) → IsFine end → TellsEnd files end result → is_fault result ≡ false → IsOkOrMemory result
fine-told files end (Ok u) fine told f = tt
fine-told files end (Err (error.Busy name)) fine told f = absurd (subst IsFine told fine)
fine-told files end (Err error.Record) fine told f = absurd (subst IsFine told fine)
fine-told files end (Err (error.Changed name at)) fine told f = absurd (subst IsFine told fine)
fine-told files end (Err (error.TooLarge name n)) fine told f = absurd (subst IsFine told fine)
fine-told files end (Err (error.Disk passed)) fine told f = absurd (cc)
fine-told files end (Err error.Memory) fine told f = tt
fine-told files end (Err (error.TooManyNames n)) fine told f = absurd told

-- a disk fault has its count
not-fault : (before now : Counts) (result : Result Unit CommitError) → (Rose before.disks now.disks → ⊥) → CommitCause before now result → is_fault result ≡ false
not-fault before now (Err (error.Disk passed)) quiet cause = absurd (quiet cause)
not-fault before now result quiet cause = refl

module _ (make : Files → Files) (actor : List ℕ) (token : ℕ) (time : ℤ) (c : Change) (cs : List Change) (base : List (List ℕ)) (d : Disk)
    (es : List Event) (job : IsJob (timed_for actor token time (c ∷ cs) base)) (safe : RunsSafely make (job_for actor token (c ∷ cs) base) d es) where
  abbrev commit_job : Job
  commit_job = timed_for actor token time (c ∷ cs) base

  -- what is made as the record is published
  all-made : list_any is_failed (own es) ≡ false → Made actor (own es)
  all-made f = elim (cases_Bool (list_any (is_unpublished actor) (own es))) [
    | inl y ↦ (let w = some-of (is_unpublished actor) (own es) y in absurd (not w.0 w.1 w.2))
    | inr n ↦ n
  ]
    where
      not : (e : Event) → Mem e (own es) → is_unpublished actor e ≡ true → ⊥
      not (event.Publish from to false false) m h =
          let same : from ≡ new_name actor = (bytes_eq-Decides from (new_name actor)).0 h in
          let w = own-split es (event.Publish from to false false) m in
          safe.published w.0 w.1 to (w.2 ∙ ap (λ (x : List ℕ). w.0 ++ event.Publish x to false false ∷ w.1) same)
      not (event.Publish from to false true) m h = let w : true ≡ false = none-of is_failed (own es) (event.Publish from to false true) f m in absurd (cc)
      not (event.Publish from to true failed) m h = absurd (cc)
      not e m h = absurd (cc)

  -- a commit that nothing hinders is done, or memory was wanting
  pub completes : (before now : Counts) (result : Result Unit CommitError) → Commits commit_job (own es) result → CommitCause before now result
      → IsComplete actor (c ∷ cs) base (own es) before now result
  completes before now result h cause quiet free =
      let fault = not-fault before now result quiet cause in
      let faults = tells-faults commit_job (own es) result h in
      let none = faults ∙ fault in
      let told = end-told actor token time c cs base job (own es) result h faults in
      let F : Option Refusal → Type 0 = λ o. IsFine (by_right actor o (first_names (c ∷ cs)) (own es)) in
      let fine = subst F (sym free.can) (right-fine commit_job (first_names (c ∷ cs)) (own es) (Ended h.end) none h.goes free.free (all-made none)) in
      fine-told (first_names (c ∷ cs)) (end_told actor (c ∷ cs) base (own es)) result fine told fault
