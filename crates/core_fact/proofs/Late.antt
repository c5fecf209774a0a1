-- The machine never comes back to its first state, and to its last only by a seizure that isn't answered so and by the release.
use Rattle.std.proofs.Common.{◌≡◌, ◌≢◌, ◌⊎◌, ℕ, Bool, true, false, List, [], ◌∷◌, Option, refl, sym, subst, inl, inr}
use Rattle.commit_machine.specs.Items.{made_items}
use Rattle.commit_machine.specs.Jobs.{Ending, NoMemory, Job, edits_of, all_of, prepare_of, go_of, Done}
use Rattle.commit_machine.specs.Machine.{GoOn, Answer, State, asking, Seizing, Timing, Looking, Undoing, Placing, Testing, Removing, Extending, Discarding, Unlocking, Erasing, Clearing, Publishing, Locking, Loading, Staging, Deciding, Committing, Checking, Releasing, Ended, Reply, Went, Saw, Long, Short, Fault, faulted, refused, wanted, saw, too_long, went_on, after_reply}
use Rattle.core_steps.specs.declared.actor.Actor.{Actor}
use Rattle.core_steps.specs.declared.actor.Task.{Task}
use Rattle.core_steps.specs.declared.actor.Past.{Past}
use Rattle.core_steps.specs.declared.actor.Past.TheVariants.{Shown, Wanted}
use Rattle.core_steps.specs.Tasks.{job_of, on_time, state_from, state_of}
use Rattle.commit_machine.specs.Goes.{reply}
use Rattle.core_fact.proofs.Mid.{IsMid, IsLate, late_mid, mid_unlocking, mid_undoing, mid_placing, mid_staging, mid_locking, mid_mended, mid_tested, mid_looked, mid_loaded, mid_asking}

module _ (j : Job) where
  -- want of memory
  pub mid_refused : (s : State) → IsMid s → IsMid (refused j s)
  mid_refused Seizing m = absurd m
  mid_refused (Ended e) m = absurd m
  mid_refused (Undoing r n ns ls GoOn) m = tt
  mid_refused (Undoing r n ns ls (Answer a)) m = tt
  mid_refused (Placing r x xs ls GoOn) m = tt
  mid_refused (Placing r x xs ls (Answer a)) m = tt
  mid_refused (Removing r x xs ls GoOn) m = tt
  mid_refused (Removing r x xs ls (Answer a)) m = tt
  mid_refused (Extending r x xs ls GoOn) m = tt
  mid_refused (Extending r x xs ls (Answer a)) m = tt
  mid_refused (Discarding r x xs ls GoOn) m = tt
  mid_refused (Discarding r x xs ls (Answer a)) m = tt
  mid_refused (Unlocking r n ns GoOn) m = tt
  mid_refused (Unlocking r n ns (Answer a)) m = tt
  mid_refused (Erasing r GoOn) m = tt
  mid_refused (Erasing r (Answer a)) m = tt
  mid_refused (Locking ls e left) m = mid_undoing j (prepare_of j) [] ls (Answer NoMemory)
  mid_refused (Loading made e left) m = mid_undoing j (prepare_of j) [] (all_of j) (Answer NoMemory)
  mid_refused (Staging ns made x left) m = mid_undoing j (prepare_of j) ns (all_of j) (Answer NoMemory)
  mid_refused (Deciding made) m = mid_undoing j (prepare_of j) (all_of j) (all_of j) (Answer NoMemory)
  mid_refused (Committing made) m = mid_undoing j (prepare_of j) (all_of j) (all_of j) (Answer NoMemory)
  mid_refused s m = tt

  late_refused : (s : State) → IsLate (refused j s)
  late_refused Seizing = tt
  late_refused (Ended e) = tt
  late_refused s = late_mid (refused j s) (mid_refused s tt)

  mid_went : (s : State) (b : Bool) → IsMid s → ((e : Ending) → s ≢ Releasing e) → IsMid (went_on j s b)
  mid_went Seizing b m free = absurd m
  mid_went (Ended e) b m free = absurd m
  mid_went (Releasing e) b m free = absurd (free e refl)
  mid_went (Undoing r n ns ls th) b m free = mid_undoing j r ns ls th
  mid_went (Placing r x xs ls th) b m free = mid_placing j r xs ls th
  mid_went (Discarding r x xs ls th) b m free = mid_placing j r xs ls th
  mid_went (Unlocking r n ns th) b m free = mid_unlocking j r ns th
  mid_went (Erasing r GoOn) b m free = tt
  mid_went (Erasing r (Answer why)) b m free = tt
  mid_went (Clearing found) b m free = mid_mended j found j.edits
  mid_went Publishing true m free = mid_locking j [] (edits_of j)
  mid_went Publishing false m free = tt
  mid_went (Locking ls e left) true m free = mid_locking j _ left
  mid_went (Locking ls e left) false m free = mid_undoing j (prepare_of j) [] ls _
  mid_went (Staging ns done x left) b m free = mid_staging j _ done left
  mid_went (Committing done) true m free = mid_placing j (go_of j done) (made_items j done) (all_of j) (Answer Done)
  mid_went (Committing done) false m free = tt
  mid_went s b m free = tt

  mid_saw : (s : State) (c : Option (List ℕ)) → IsMid (saw j s c)
  mid_saw Looking c = mid_looked j c
  mid_saw (Testing r x xs ls) c = mid_tested j r x xs ls c
  mid_saw (Loading done e left) c = mid_loaded j done e left c (e.by c)
  mid_saw s c = tt

  mid_long : (s : State) (n : ℕ) → IsMid (too_long j s n)
  mid_long (Loading done e left) n = mid_undoing j (prepare_of j) [] (all_of j) _
  mid_long s n = tt

  mid_faulted : (s : State) → IsMid (faulted s)
  mid_faulted (Committing done) = tt
  mid_faulted s = tt

  mid_wanted : (s : State) → IsMid s → IsMid (wanted j s)
  mid_wanted Checking m = tt
  mid_wanted Seizing m = absurd m
  mid_wanted (Ended e) m = absurd m
  mid_wanted s m = mid_refused s tt

  late_wanted : (s : State) → IsLate (wanted j s)
  late_wanted Checking = tt
  late_wanted s = late_refused s

  -- between the first and the last state, but for the release
  pub mid_reply : (s : State) (r : Reply) → IsMid s → ((e : Ending) → s ≢ Releasing e) → IsMid (after_reply j s r)
  mid_reply s (Went b) m free = mid_went s b m free
  mid_reply s (Saw c) m free = mid_saw s c
  mid_reply s (Long n) m free = mid_long s n
  mid_reply s Short m free = mid_wanted s m
  mid_reply s Fault m free = mid_faulted s

  late_went : (s : State) (b : Bool) → IsLate (went_on j s b)
  late_went Seizing true = late_mid (asking j.time) (mid_asking j j.time)
  late_went Seizing false = tt
  late_went (Releasing e) b = tt
  late_went (Ended e) b = tt
  late_went s b = late_mid (went_on j s b) (mid_went s b tt (λ e p. absurd (cc)))

  pub late_reply : (s : State) (r : Reply) → IsLate (after_reply j s r)
  late_reply s (Went b) = late_went s b
  late_reply s (Saw c) = late_mid (saw j s c) (mid_saw s c)
  late_reply s (Long n) = late_mid (too_long j s n) (mid_long s n)
  late_reply s Short = late_wanted s
  late_reply s Fault = late_mid (faulted s) (mid_faulted s)

  -- the first seizure, if it is answered so
  pub mid_seized : (r : Reply) → (r ≡ Went true) ⊎ (r ≡ Fault) → IsMid (after_reply j Seizing r)
  mid_seized r (inl p) = subst (λ (z : Reply). IsMid (after_reply j Seizing z)) (sym p) (mid_asking j j.time)
  mid_seized r (inr p) = subst (λ (z : Reply). IsMid (after_reply j Seizing z)) (sym p) tt

  late_on_time : (s : State) → IsLate s → IsLate (on_time s)
  late_on_time (Timing time) l = tt
  late_on_time s l = l

  pub mid_on_time : (s : State) → IsMid s → IsMid (on_time s)
  mid_on_time (Timing time) l = tt
  mid_on_time s l = l

  late_from : (past : List Past) (s : State) → IsLate s → IsLate (state_from j s past)
  late_from [] s l = l
  late_from (Shown e ∷ past) s l = late_from past (on_time (after_reply j s (reply e))) (late_on_time (after_reply j s (reply e)) (late_reply s (reply e)))
  late_from (Wanted ∷ past) s l = late_from past (refused j s) (late_refused s)

  late_then : (p : Past) (past : List Past) (s : State) → IsLate (state_from j s (p ∷ past))
  late_then (Shown e) past s = late_from past (on_time (after_reply j s (reply e))) (late_on_time (after_reply j s (reply e)) (late_reply s (reply e)))
  late_then Wanted past s = late_from past (refused j s) (late_refused s)

-- at the first state nothing has happened
pub first_is_first : (a : Actor) (t : Task) (past : List Past) → state_of a t past ≡ Seizing → past ≡ []
first_is_first a t [] e = refl
first_is_first a t (p ∷ past) e = absurd (subst IsLate e (late_then (job_of a t) p past Seizing))
