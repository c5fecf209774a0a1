-- A commit doesn't end as a recovery.
use Rattle.std.proofs.Common.{ℕ, ℤ, Bool, true, false, List, [], ◌∷◌, sym, subst, inl, inr}
use Rattle.std.specs.declared.option.Option.{Option}
use Rattle.std.specs.declared.option.Option.TheVariants.{Some, None}
use Rattle.std.proofs.lemmas.Bool.{cases_Bool}
use Rattle.host_port.specs.declared.event.Event.{Event}
use Rattle.commit_record.specs.declared.record.Record.{Record}
use Rattle.commit_record.specs.declared.way.Way.{Way}
use Rattle.commit_record.specs.declared.way.Way.TheVariants.{Replace, Remove, Extend}
use Rattle.commit_machine.specs.Records.{record_of, is_go, names_of}
use Rattle.commit_machine.specs.Items.{Item, found_items, made_items}
use Rattle.commit_machine.specs.Settled.{Files}
use Rattle.commit_machine.specs.Jobs.{Ending, Done, Recovered, Refused, NoMemory, Refusal, Outcome, Puts, Edit, Job, Made, all_of, seen_files, prepare_of, go_of}
use Rattle.commit_machine.specs.Machine.{State, Seizing, Timing, Looking, Undoing, Placing, Testing, Removing, Extending, Discarding, Unlocking, Erasing, Clearing, Preparing, Publishing, Locking, Loading, Staging, Deciding, Committing, Checking, Releasing, Ended, Then, GoOn, Answer, Reply, Went, Saw, Long, Short, Fault, unlocking, undoing, removing, extending, tested, place_one, place_known, placing, staging, record_seen, judged, loading, locking, loaded, refused, after_reply}
use Rattle.commit_machine.specs.Goes.{reply, Goes}

-- the ends of a commit
abbrev pub IsEnd : Ending → Type 0
IsEnd (Recovered f) = ⊥
IsEnd e = Unit {0}

abbrev EndsThen : Then → Type 0
EndsThen GoOn = Unit {0}
EndsThen (Answer e) = IsEnd e

abbrev Commits : State → Type 0
Commits (Undoing r n ns ls th) = EndsThen th
Commits (Placing r x xs ls th) = EndsThen th
Commits (Removing r x xs ls th) = EndsThen th
Commits (Extending r x xs ls th) = EndsThen th
Commits (Discarding r x xs ls th) = EndsThen th
Commits (Unlocking r n ns th) = EndsThen th
Commits (Erasing r th) = EndsThen th
Commits (Releasing e) = IsEnd e
Commits (Ended e) = IsEnd e
Commits s = Unit {0}

c-unlocking : (r : Record) (ls : List (List ℕ)) (th : Then) → EndsThen th → Commits (unlocking r ls th)
c-unlocking r [] th h = h
c-unlocking r (l ∷ ls) th h = h

c-undoing : (r : Record) (ns ls : List (List ℕ)) (th : Then) → EndsThen th → Commits (undoing r ns ls th)
c-undoing r [] ls th h = c-unlocking r ls th h
c-undoing r (n ∷ ns) ls th h = h

c-removing : (r : Record) (x : Item) (xs : List Item) (ls : List (List ℕ)) (th : Then) → EndsThen th → Commits (removing r x xs ls th)
c-removing r x xs ls GoOn h = tt
c-removing r x xs ls (Answer e) h = h

c-extending : (r : Record) (x : Item) (xs : List Item) (ls : List (List ℕ)) (th : Then) → EndsThen th → Commits (extending r x xs ls th)
c-extending r x xs ls GoOn h = tt
c-extending r x xs ls (Answer e) h = h

c-known : (way : Way) (r : Record) (x : Item) (xs : List Item) (ls : List (List ℕ)) → Commits (place_known way r x xs ls GoOn)
c-known Replace r x xs ls = tt
c-known Remove r x xs ls = tt
c-known (Extend at) r x xs ls = tt

c-one : (way : Way) (r : Record) (x : Item) (xs : List Item) (ls : List (List ℕ)) (th : Then) → EndsThen th → Commits (place_one way r x xs ls th)
c-one Replace r x xs ls th h = h
c-one Remove r x xs ls th h = c-removing r x xs ls th h
c-one (Extend at) r x xs ls th h = c-extending r x xs ls th h

c-placing : (r : Record) (xs : List Item) (ls : List (List ℕ)) (th : Then) → EndsThen th → Commits (placing r xs ls th)
c-placing r [] ls th h = c-unlocking r ls th h
c-placing r (x ∷ xs) ls th h = c-one x.way r x xs ls th h

c-tested : (r : Record) (x : Item) (xs : List Item) (ls : List (List ℕ)) (c : Option (List ℕ)) → Commits (tested r x xs ls c)
c-tested r x xs ls None = c-placing r xs ls GoOn tt
c-tested r x xs ls (Some bytes) = c-known x.way r (record x { staged = Some bytes }) xs ls

c-seen : (o : Option Record) → Commits (record_seen o)
c-seen None = tt
c-seen (Some r) = elim (cases_Bool (is_go r)) [ inl y ↦ rw y (c-placing r (found_items r) (names_of r) GoOn tt) | inr nay ↦ rw nay (c-undoing r (names_of r) (names_of r) GoOn tt) ]

c-staging : (ns : List (List ℕ)) (done left : List Made) → Commits (staging ns done left)
c-staging ns done [] = tt
c-staging ns done (x ∷ left) = tt

module _ (actor : List ℕ) (token : ℕ) (time : ℤ) (edits : List Edit) (refusal : Files → Option Refusal) where
  abbrev job : Job
  job = record { actor = actor; token = token; time = Some time; edits = Some edits; refusal = refusal }

  c-judged : (done : List Made) (o : Option Refusal) → Commits (judged job done o)
  c-judged done None = c-staging [] done done
  c-judged done (Some why) = c-undoing (prepare_of job) [] (all_of job) (Answer (Refused why)) tt

  c-loading : (done : List Made) (left : List Edit) → Commits (loading job done left)
  c-loading done [] = c-judged done (refusal (seen_files done))
  c-loading done (e ∷ left) = tt

  c-locking : (ls : List (List ℕ)) (left : List Edit) → Commits (locking job ls left)
  c-locking ls [] = c-loading [] edits
  c-locking ls (e ∷ left) = tt

  c-loaded : (done : List Made) (e : Edit) (left : List Edit) (c : Option (List ℕ)) (o : Outcome) → Commits (loaded job done e left c o)
  c-loaded done e left c (Puts way content) = c-loading _ left

  c-refused : (s : State) → Commits s → Commits (refused job s)
  c-refused Seizing h = tt
  c-refused (Timing at) h = tt
  c-refused Looking h = tt
  c-refused (Undoing r n ns ls GoOn) h = tt
  c-refused (Undoing r n ns ls (Answer e)) h = h
  c-refused (Placing r x xs ls GoOn) h = tt
  c-refused (Placing r x xs ls (Answer e)) h = h
  c-refused (Testing r x xs ls) h = tt
  c-refused (Removing r x xs ls GoOn) h = tt
  c-refused (Extending r x xs ls GoOn) h = tt
  c-refused (Removing r x xs ls (Answer e)) h = h
  c-refused (Extending r x xs ls (Answer e)) h = h
  c-refused (Discarding r x xs ls GoOn) h = tt
  c-refused (Discarding r x xs ls (Answer e)) h = h
  c-refused (Unlocking r n ns GoOn) h = tt
  c-refused (Unlocking r n ns (Answer e)) h = h
  c-refused (Erasing r GoOn) h = tt
  c-refused (Erasing r (Answer e)) h = h
  c-refused (Clearing f) h = tt
  c-refused Preparing h = tt
  c-refused Publishing h = tt
  c-refused (Locking ls e left) h = c-undoing (prepare_of job) [] ls (Answer NoMemory) tt
  c-refused (Loading done e left) h = c-undoing (prepare_of job) [] (all_of job) (Answer NoMemory) tt
  c-refused (Staging ns done x left) h = c-undoing (prepare_of job) ns (all_of job) (Answer NoMemory) tt
  c-refused (Deciding done) h = c-undoing (prepare_of job) (all_of job) (all_of job) (Answer NoMemory) tt
  c-refused (Committing done) h = c-undoing (prepare_of job) (all_of job) (all_of job) (Answer NoMemory) tt
  c-refused Checking h = tt
  c-refused (Releasing e) h = h
  c-refused (Ended e) h = h

  c-went : (s : State) (b : Bool) → Commits s → Commits (after_reply job s (Went b))
  c-went Seizing true h = tt
  c-went Seizing false h = tt
  c-went (Timing at) b h = tt
  c-went (Undoing r n ns ls th) b h = c-undoing r ns ls th h
  c-went (Placing r x xs ls th) b h = c-placing r xs ls th h
  c-went (Testing r x xs ls) b h = tt
  c-went (Removing r x xs ls th) b h = h
  c-went (Extending r x xs ls th) b h = h
  c-went (Discarding r x xs ls th) b h = c-placing r xs ls th h
  c-went (Unlocking r n ns th) b h = c-unlocking r ns th h
  c-went (Erasing r GoOn) b h = tt
  c-went (Erasing r (Answer e)) b h = h
  c-went (Clearing f) b h = tt
  c-went Preparing b h = tt
  c-went Publishing true h = c-locking [] edits
  c-went Publishing false h = tt
  c-went (Locking ls e left) true h = c-locking _ left
  c-went (Locking ls e left) false h = c-undoing (prepare_of job) [] ls _ tt
  c-went (Staging ns done x left) b h = c-staging _ done left
  c-went (Deciding done) b h = tt
  c-went (Committing done) true h = c-placing (go_of job done) (made_items job done) (all_of job) (Answer Done) tt
  c-went (Committing done) false h = tt
  c-went (Releasing e) b h = h
  c-went Looking b h = tt
  c-went (Loading done e left) b h = tt
  c-went Checking b h = tt
  c-went (Ended e) b h = tt

  c-saw : (s : State) (c : Option (List ℕ)) → Commits s → Commits (after_reply job s (Saw c))
  c-saw Looking None h = tt
  c-saw Looking (Some bytes) h = c-seen (record_of bytes)
  c-saw (Testing r x xs ls) c h = c-tested r x xs ls c
  c-saw (Loading done e left) c h = c-loaded done e left c (e.by c)
  c-saw Checking c h = tt
  c-saw s c h = tt

  c-long : (s : State) (n : ℕ) → Commits s → Commits (after_reply job s (Long n))
  c-long Looking n h = tt
  c-long (Testing r x xs ls) n h = tt
  c-long (Loading done e left) n h = c-undoing (prepare_of job) [] (all_of job) _ tt
  c-long s n h = tt

  c-short : (s : State) → Commits s → Commits (after_reply job s Short)
  c-short Checking h = tt
  c-short s h = c-refused s h

  c-fault : (s : State) → Commits (after_reply job s Fault)
  c-fault (Committing done) = tt
  c-fault s = tt

  c-reply : (s : State) (r : Reply) → Commits s → Commits (after_reply job s r)
  c-reply s (Went b) h = c-went s b h
  c-reply s (Saw c) h = c-saw s c h
  c-reply s (Long n) h = c-long s n h
  c-reply s Short h = c-short s h
  c-reply s Fault h = c-fault s

  c-last : (es : List Event) (s last : State) → Commits s → Goes job s es last → Commits last
  c-last [] s last h (inl p) = subst Commits p h
  c-last [] s last h (inr p) = subst Commits p (c-refused s h)
  c-last (e ∷ es) s last h (now, from, is, more) =
      let at : Commits now = elim from [ inl p ↦ subst Commits (sym p) h | inr p ↦ subst Commits (sym p) (c-refused s h) ] in
      c-last es (after_reply job now (reply e)) last (c-reply now (reply e) at) more

  pub no-recovery : (es : List Event) (e : Ending) → Goes job Seizing es (Ended e) → IsEnd e
  no-recovery es e goes = c-last es Seizing (Ended e) tt goes
