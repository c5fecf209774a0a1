-- What a run never does, by its states.
use Rattle.std.proofs.Common.{◌≡◌, ◌≢◌, ◌⊎◌, ℕ, ℤ, Bool, true, false, List, [], ◌∷◌, ◌++◌, Option, Some, None, if◌then◌else◌, refl, ap, sym, subst, inl, inr, ◌∙◌}
use Rattle.commit_record.specs.declared.way.Way.{Way}
use Rattle.commit_record.specs.declared.way.Way.TheVariants as way
use Rattle.commit_record.specs.declared.record.Record.{Record}
use Rattle.host_port.specs.declared.event.Event.{Event}
use Rattle.host_port.specs.declared.event.Event.TheVariants as event
use Rattle.host_port.specs.declared.event.ForeignStep.{ForeignStep}
use Rattle.host_port.specs.declared.event.ForeignStep.TheVariants.{Write, Remove, Lock, Unlock, Seize, Release}
use Rattle.host_port.specs.declared.event.Holder.{Holder}
use Rattle.host_port.specs.declared.event.Holder.TheVariants.{Own, Other}
use Rattle.host_port.specs.Disk.{Disk, disk, after, after_step, with_at, taken, without_other, without_own}
use Rattle.host_port.specs.Own.{own}
use Rattle.commit_machine.specs.Names.{right_name}
use Rattle.commit_machine.specs.Records.{record_of, is_go, names_of}
use Rattle.commit_machine.specs.Items.{Item, found_items, made_items}
use Rattle.commit_machine.specs.Jobs.{Ending, Refused, NoMemory, Found, Busy, TooLarge, Refusal, Outcome, Puts, Edit, Job, Made, edits_of, all_of, seen_files, prepare_of, go_of, Done}
use Rattle.commit_machine.specs.Machine.{Then, GoOn, Answer, State, asking, Seizing, Looking, Undoing, Placing, Testing, Removing, Extending, Discarding, Unlocking, Erasing, Clearing, Preparing, Publishing, Locking, Loading, Staging, Deciding, Committing, Checking, Releasing, Ended, ToSeize, ToRelease, Reply, Went, Saw, Long, Short, Fault, next, after_reply, unlocking, undoing, removing, extending, tested, place_one, place_known, placing, staging, judged, loading, locking, loaded, mended, none_stands, record_seen, looked, faulted, saw, too_long, went_on, refused, wanted}
use Rattle.commit_machine.specs.Goes.{IsOf, IsNext, Goes, seizes, releases, reply}
use Rattle.commit_machine.specs.Lawful.{HasRight}
use Rattle.commit_machine.specs.Restraints.{RightIsGivenUp}
use Rattle.commit_machine.proofs.records.Same.{same_or_not, put_here, put_there}

-- What is so at a state: Q where the right isn't taken yet or was given up, and no refusal once files are staged.
abbrev pub Fair : (Disk → Type 0) → Job → State → Disk → Type 0
Fair Q j Seizing d = Q d
Fair Q j (Ended e) d = Q d
Fair Q j (Staging ns made x left) d = j.refusal (seen_files made) ≡ None
Fair Q j (Deciding made) d = j.refusal (seen_files made) ≡ None
Fair Q j (Committing made) d = j.refusal (seen_files made) ≡ None
Fair Q j s d = Unit {0}

-- the states between the seizure and the release
abbrev IsBetween : State → Type 0
IsBetween Seizing = ⊥
IsBetween (Releasing e) = ⊥
IsBetween (Ended e) = ⊥
IsBetween s = Unit {0}

module _ (Q : Disk → Type 0) (j : Job) (d : Disk) where
  fair_unlocking : (r : Record) (ls : List (List ℕ)) (th : Then) → Fair Q j (unlocking r ls th) d
  fair_unlocking r [] th = tt
  fair_unlocking r (m ∷ ms) th = tt

  fair_undoing : (r : Record) (ns ls : List (List ℕ)) (th : Then) → Fair Q j (undoing r ns ls th) d
  fair_undoing r [] ls th = fair_unlocking r ls th
  fair_undoing r (m ∷ ns) ls th = tt

  fair_removing : (r : Record) (x : Item) (xs : List Item) (ls : List (List ℕ)) (th : Then) → Fair Q j (removing r x xs ls th) d
  fair_removing r x xs ls GoOn = tt
  fair_removing r x xs ls (Answer e) = tt

  fair_extending : (r : Record) (x : Item) (xs : List Item) (ls : List (List ℕ)) (th : Then) → Fair Q j (extending r x xs ls th) d
  fair_extending r x xs ls GoOn = tt
  fair_extending r x xs ls (Answer e) = tt

  fair_place_one : (w : Way) (r : Record) (x : Item) (xs : List Item) (ls : List (List ℕ)) (th : Then) → Fair Q j (place_one w r x xs ls th) d
  fair_place_one way.Replace r x xs ls th = tt
  fair_place_one way.Remove r x xs ls th = fair_removing r x xs ls th
  fair_place_one (way.Extend at) r x xs ls th = fair_extending r x xs ls th

  fair_placing : (r : Record) (xs : List Item) (ls : List (List ℕ)) (th : Then) → Fair Q j (placing r xs ls th) d
  fair_placing r [] ls th = fair_unlocking r ls th
  fair_placing r (x ∷ xs) ls th = fair_place_one x.way r x xs ls th

  fair_staging : (ns : List (List ℕ)) (made left : List Made) → j.refusal (seen_files made) ≡ None → Fair Q j (staging ns made left) d
  fair_staging ns made [] e = e
  fair_staging ns made (x ∷ left) e = e

  fair_judged : (made : List Made) (o : Option Refusal) → j.refusal (seen_files made) ≡ o → Fair Q j (judged j made o) d
  fair_judged made None e = fair_staging [] made made e
  fair_judged made (Some why) e = fair_undoing (prepare_of j) [] (all_of j) (Answer (Refused why))

  fair_loading : (made : List Made) (left : List Edit) → Fair Q j (loading j made left) d
  fair_loading made [] = fair_judged made (j.refusal (seen_files made)) refl
  fair_loading made (e ∷ left) = tt

  fair_locking : (ls : List (List ℕ)) (left : List Edit) → Fair Q j (locking j ls left) d
  fair_locking ls [] = fair_loading [] (edits_of j)
  fair_locking ls (e ∷ left) = tt

  fair_mending : (r : Record) (b : Bool) → Fair Q j (if b then placing r (found_items r) (names_of r) GoOn else undoing r (names_of r) (names_of r) GoOn) d
  fair_mending r true = fair_placing r (found_items r) (names_of r) GoOn
  fair_mending r false = fair_undoing r (names_of r) (names_of r) GoOn

  fair_record : (o : Option Record) → Fair Q j (record_seen o) d
  fair_record None = tt
  fair_record (Some r) = fair_mending r (is_go r)

  fair_none : (o : Option (List Edit)) → Fair Q j (none_stands o) d
  fair_none None = tt
  fair_none (Some es) = tt

  fair_mended : (found : Found) (o : Option (List Edit)) → Fair Q j (mended o found) d
  fair_mended found None = tt
  fair_mended found (Some es) = tt

  fair_known : (w : Way) (r : Record) (x : Item) (xs : List Item) (ls : List (List ℕ)) → Fair Q j (place_known w r x xs ls GoOn) d
  fair_known way.Replace r x xs ls = tt
  fair_known way.Remove r x xs ls = tt
  fair_known (way.Extend at) r x xs ls = tt

  fair_tested : (r : Record) (x : Item) (xs : List Item) (ls : List (List ℕ)) (c : Option (List ℕ)) → Fair Q j (tested r x xs ls c) d
  fair_tested r x xs ls None = fair_placing r xs ls GoOn
  fair_tested r x xs ls (Some bytes) = fair_known x.way r (record x { staged = Some bytes }) xs ls

  fair_looked : (c : Option (List ℕ)) → Fair Q j (looked j c) d
  fair_looked None = fair_none j.edits
  fair_looked (Some bytes) = fair_record (record_of bytes)

  fair_loaded : (made : List Made) (x : Edit) (left : List Edit) (c : Option (List ℕ)) (v : Outcome) → Fair Q j (loaded j made x left c v) d
  fair_loaded made x left c (Puts way content) = fair_loading _ left

  fair_refused : (s : State) → Fair Q j s d → Fair Q j (refused j s) d
  fair_refused (Undoing r m ns ls GoOn) k = tt
  fair_refused (Undoing r m ns ls (Answer a)) k = tt
  fair_refused (Placing r x xs ls GoOn) k = tt
  fair_refused (Placing r x xs ls (Answer a)) k = tt
  fair_refused (Testing r x xs ls) k = tt
  fair_refused (Removing r x xs ls GoOn) k = tt
  fair_refused (Extending r x xs ls GoOn) k = tt
  fair_refused (Removing r x xs ls (Answer a)) k = tt
  fair_refused (Extending r x xs ls (Answer a)) k = tt
  fair_refused (Discarding r x xs ls GoOn) k = tt
  fair_refused (Discarding r x xs ls (Answer a)) k = tt
  fair_refused (Unlocking r m ns GoOn) k = tt
  fair_refused (Unlocking r m ns (Answer a)) k = tt
  fair_refused (Erasing r GoOn) k = tt
  fair_refused (Erasing r (Answer a)) k = tt
  fair_refused (Locking ls e left) k = fair_undoing (prepare_of j) [] ls (Answer NoMemory)
  fair_refused (Loading made e left) k = fair_undoing (prepare_of j) [] (all_of j) (Answer NoMemory)
  fair_refused (Staging ns made x left) k = fair_undoing (prepare_of j) ns (all_of j) (Answer NoMemory)
  fair_refused (Deciding made) k = fair_undoing (prepare_of j) (all_of j) (all_of j) (Answer NoMemory)
  fair_refused (Committing made) k = fair_undoing (prepare_of j) (all_of j) (all_of j) (Answer NoMemory)
  fair_refused s k = k

  pub fair_now : (s now : State) → (now ≡ s) ⊎ (now ≡ refused j s) → Fair Q j s d → Fair Q j now d
  fair_now s now (inl p) k = subst (λ (z : State). Fair Q j z d) (sym p) k
  fair_now s now (inr p) k = subst (λ (z : State). Fair Q j z d) (sym p) (fair_refused s k)

  fair_wanted : (s : State) → Fair Q j s d → Fair Q j (wanted j s) d
  fair_wanted Checking k = tt
  fair_wanted s k = fair_refused s k

  fair_faulted : (s : State) → Fair Q j (faulted s) d
  fair_faulted (Committing made) = tt
  fair_faulted s = tt

  fair_saw : (s : State) (c : Option (List ℕ)) → Fair Q j (saw j s c) d
  fair_saw Looking c = fair_looked c
  fair_saw (Testing r x xs ls) c = fair_tested r x xs ls c
  fair_saw (Loading made x left) c = fair_loaded made x left c (x.by c)
  fair_saw Checking c = tt
  fair_saw s c = tt

  fair_long : (s : State) (m : ℕ) → Fair Q j (too_long j s m) d
  fair_long Looking m = tt
  fair_long (Testing r x xs ls) m = tt
  fair_long (Loading made x left) m = fair_undoing (prepare_of j) [] (all_of j) (Answer (Refused (TooLarge x.name m)))
  fair_long s m = tt

  fair_went : (s : State) (b : Bool) → IsBetween s → Fair Q j s d → Fair Q j (went_on j s b) d
  fair_went Seizing b between k = absurd between
  fair_went (Undoing r m ns ls th) b between k = fair_undoing r ns ls th
  fair_went (Placing r x xs ls th) b between k = fair_placing r xs ls th
  fair_went (Removing r x xs ls th) b between k = tt
  fair_went (Extending r x xs ls th) b between k = tt
  fair_went (Discarding r x xs ls th) b between k = fair_placing r xs ls th
  fair_went (Unlocking r m ns th) b between k = fair_unlocking r ns th
  fair_went (Erasing r GoOn) b between k = tt
  fair_went (Erasing r (Answer why)) b between k = tt
  fair_went (Clearing found) b between k = fair_mended found j.edits
  fair_went Preparing b between k = tt
  fair_went Publishing true between k = fair_locking [] (edits_of j)
  fair_went Publishing false between k = tt
  fair_went (Locking ls e left) true between k = fair_locking (ls ++ (e.name ∷ [])) left
  fair_went (Locking ls e left) false between k = fair_undoing (prepare_of j) [] ls (Answer (Refused (Busy e.name)))
  fair_went (Staging ns made x left) b between k = fair_staging (ns ++ (x.edit.name ∷ [])) made left k
  fair_went (Deciding made) b between k = k
  fair_went (Committing made) true between k = fair_placing (go_of j made) (made_items j made) (all_of j) (Answer Done)
  fair_went (Committing made) false between k = tt
  fair_went (Releasing why) b between k = absurd between
  fair_went (Ended why) b between k = absurd between
  fair_went s b between k = tt

  fair_reply : (s : State) (r : Reply) → IsBetween s → Fair Q j s d → Fair Q j (after_reply j s r) d
  fair_reply s (Went b) between k = fair_went s b between k
  fair_reply s (Saw c) between k = fair_saw s c
  fair_reply s (Long m) between k = fair_long s m
  fair_reply s Short between k = fair_wanted s k
  fair_reply s Fault between k = fair_faulted s

  pub fair_asking : (o : Option ℤ) → Fair Q j (asking o) d
  fair_asking None = tt
  fair_asking (Some time) = tt

  -- between the seizure and the release it doesn't matter what the disk is
  fair_any : (d' : Disk) (s : State) → IsBetween s → Fair Q j s d → Fair Q j s d'
  fair_any d' Seizing between k = absurd between
  fair_any d' (Ended why) between k = absurd between
  fair_any d' (Releasing why) between k = absurd between
  fair_any d' s between k = k

module _ (Q : Disk → Type 0) (j : Job) (gone : (d : Disk) → Q (after d (event.Release (right_name j.actor)))) (kept : (d : Disk) (f : ForeignStep) → Q d → Q (after_step d f)) where
  fair_seizing : (d : Disk) {e : Event} → IsOf (ToSeize (right_name j.actor)) e → Q d → Fair Q j (after_reply j Seizing (reply e)) (after d e)
  fair_seizing d (seizes {got = true} {failed = true}) k = tt
  fair_seizing d (seizes {got = true} {failed = false}) k = fair_asking Q j (after d (event.Seize (right_name j.actor) true false)) j.time
  fair_seizing d (seizes {got = false} {failed = true}) k = tt
  fair_seizing d (seizes {got = false} {failed = false}) k = k

  fair_releasing : (d : Disk) (a : Ending) {e : Event} → IsOf (ToRelease (right_name j.actor)) e → Fair Q j (after_reply j (Releasing a) (reply e)) (after d e)
  fair_releasing d a releases = gone d

  fair_step : (d : Disk) (s : State) (e : Event) → IsNext (next j s) e → Fair Q j s d → Fair Q j (after_reply j s (reply e)) (after d e)
  fair_step d Seizing e is k = fair_seizing d is k
  fair_step d (Releasing a) e is k = fair_releasing d a is
  fair_step d (Ended a) e is k = absurd is
  fair_step d s e is k = fair_reply Q j (after d e) s (reply e) tt (fair_any Q j d (after d e) s tt k)

  fair_others : (d : Disk) (f : ForeignStep) (s : State) → Fair Q j s d → Fair Q j s (after_step d f)
  fair_others d f Seizing k = kept d f k
  fair_others d f (Ended a) k = kept d f k
  fair_others d f (Releasing a) k = tt
  fair_others d f s k = fair_any Q j d (after_step d f) s tt k

  pub all_fair : (es : List Event) (s last : State) (d : Disk) → Fair Q j s d → Goes j s (own es) last → Fair Q j last (disk d es)
  all_fair [] s last d k goes = fair_now Q j d s last (elim goes [ inl p ↦ inl (sym p) | inr p ↦ inr (sym p) ]) k
  all_fair (event.Foreign f ∷ es) s last d k goes = all_fair es s last (after_step d f) (fair_others d f s k) goes
  all_fair (e ∷ es) s last d k goes = all_fair es (after_reply j goes.0 (reply e)) last (after d e) (fair_step d goes.0 e goes.2 (fair_now Q j d s goes.0 goes.1 k)) goes.3

-- others can't give this run a right
not_taken : (h : Option Holder) → h ≢ Some Own → taken h ≢ Some Own
not_taken None ne = λ e. absurd (cc)
not_taken (Some h) ne = ne

not_left : (h : Option Holder) → h ≢ Some Own → without_other h ≢ Some Own
not_left None ne = ne
not_left (Some Own) ne = ne
not_left (Some Other) ne = λ e. absurd (cc)

none_own : (h : Option Holder) → without_own h ≢ Some Own
none_own None = λ e. absurd (cc)
none_own (Some Own) = λ e. absurd (cc)
none_own (Some Other) = λ e. absurd (cc)

not_put : (rights : List ℕ → Option Holder) (n m : List ℕ) (v : Option Holder) → rights m ≢ Some Own → (rights n ≢ Some Own → v ≢ Some Own) → with_at rights n v m ≢ Some Own
not_put rights n m v ne stays = elim (same_or_not m n) [
  | inl p ↦ (λ e. stays (λ own. ne (ap rights p.0 ∙ own)) (sym (put_here rights n v) ∙ ap (with_at rights n v) (sym p.0) ∙ e))
  | inr p ↦ (λ e. ne (sym (put_there rights n m v p.0) ∙ e))
]

no_right_comes : (actor : List ℕ) (d : Disk) (f : ForeignStep) → (HasRight actor d → ⊥) → HasRight actor (after_step d f) → ⊥
no_right_comes actor d (Write n b) ne = ne
no_right_comes actor d (Remove n) ne = ne
no_right_comes actor d (Lock n u) ne = ne
no_right_comes actor d (Unlock n u) ne = ne
no_right_comes actor d (Seize n) ne = not_put d.rights n (right_name actor) (taken (d.rights n)) ne (not_taken (d.rights n))
no_right_comes actor d (Release n) ne = not_put d.rights n (right_name actor) (without_other (d.rights n)) ne (not_left (d.rights n))

pub right_is_given_up : RightIsGivenUp
right_is_given_up j d es end run before =
    all_fair (λ d. HasRight j.actor d → ⊥) j
    (λ d has. none_own (d.rights (right_name j.actor))
    (sym (put_here d.rights (right_name j.actor) (without_own (d.rights (right_name j.actor)))) ∙ has)) (no_right_comes j.actor) es Seizing (Ended end) d before run.goes
