-- The laws, by induction on the events.
use Rattle.std.proofs.Common.{◌≡◌, ◌⊎◌, ℕ, Bool, true, List, [], ◌∷◌, Option, Some, None, refl, ap, sym, subst, inl, inr, ◌∙◌}
use Rattle.std.proofs.lemmas.Bool.{cases_Bool, eqb-true}
use Rattle.host_port.specs.declared.event.Event.{Event}
use Rattle.host_port.specs.declared.event.Event.TheVariants as event
use Rattle.host_port.specs.Disk.{Disk, after}
use Rattle.host_port.specs.Ran.{Agrees}
use Rattle.commit_machine.specs.Settled.{Files, Locks}
use Rattle.commit_machine.specs.Jobs.{Done, Recovered, Refused, Failed, NoMemory, Job, IsJob}
use Rattle.commit_machine.specs.Machine.{State, Seizing, Timing, Looking, Undoing, Placing, Testing, Removing, Extending, Discarding, Unlocking, Erasing, Clearing, Preparing, Publishing, Locking, Loading, Staging, Deciding, Committing, Checking, Releasing, Ended, after_reply}
use Rattle.commit_machine.specs.Goes.{reply}
use Rattle.commit_machine.specs.Lawful.{IsSound}
use Rattle.commit_machine.specs.Due.{settled_files, settled_locks, files_then}
use Rattle.commit_machine.proofs.standing.Known.{Knows}
use Rattle.commit_machine.proofs.records.Same.{same_true}
use Rattle.host_port.specs.Disk.{disk, after_step}
use Rattle.host_port.specs.Own.{own}
use Rattle.host_port.specs.Ran.{Honest}
use Rattle.commit_machine.specs.Machine.{refused, next}
use Rattle.commit_machine.specs.Goes.{IsNext, Goes}
use Rattle.commit_machine.specs.Lawful.{OthersAreLawful}
use Rattle.commit_machine.specs.Due.{files_after, locks_after, locks_then, renewed, same_file, same_lock}
use Rattle.commit_machine.specs.Laws.{IsRun, IsSettledAs, CrashSafe, NothingLeft}
use Rattle.commit_machine.proofs.steps.Right
use Rattle.commit_machine.proofs.steps.Mending
use Rattle.commit_machine.proofs.steps.Removals
use Rattle.commit_machine.proofs.steps.Closing
use Rattle.commit_machine.proofs.steps.OwnRecord
use Rattle.commit_machine.proofs.steps.Making
use Rattle.commit_machine.proofs.steps.Decision
use Rattle.commit_machine.proofs.steps.Shown.{Kept}
use Rattle.commit_machine.proofs.standing.Lawful.{lawful_keeps}
use Rattle.commit_machine.proofs.standing.Others.{others_knows}
use Rattle.commit_machine.proofs.standing.KnownNext.{knows_refused}

pub file_true : (a b : Option (List ℕ)) → same_file a b ≡ true → a ≡ b
file_true None None h = refl
file_true None (Some b) h = absurd (cc)
file_true (Some a) None h = absurd (cc)
file_true (Some a) (Some b) h = ap (λ (x : List ℕ). Some x) (same_true a b h)

pub lock_true : (a b : Option ℕ) → same_lock a b ≡ true → a ≡ b
lock_true None None h = refl
lock_true None (Some b) h = absurd (cc)
lock_true (Some a) None h = absurd (cc)
lock_true (Some a) (Some b) h = ap (λ (x : ℕ). Some x) (eqb-true a b h)

pub renewed_is : {A : Type 0} (same : Option A → Option A → Bool) → ((a b : Option A) → same a b ≡ true → a ≡ b) → (old new value : Option A) → old ≡ value → new ≡ renewed same old new value
renewed_is same tells old new value e = elim (cases_Bool (same old new)) [ inl y ↦ rw y (sym (tells old new y) ∙ e) | inr nay ↦ rw nay refl ]

module _ (j : Job) (job : IsJob j) where
  pub own_step : (d : Disk) (files : Files) (owners : Locks) → ((n : List ℕ) → settled_files j.actor d n ≡ files n)
      → ((n : List ℕ) → settled_locks j.actor d n ≡ owners n) → IsSound j.actor d → (s : State) (e : Event) → IsNext (next j s) e → Agrees d e → Knows j s d → Kept j s e d files owners
  own_step d files owners settles locked sound Seizing e is agrees k = Right.step_seizing j job d files owners settles locked sound is k
  own_step d files owners settles locked sound (Timing time) e is agrees k = Right.step_timing j job d files owners settles locked sound time is k
  own_step d files owners settles locked sound Looking e is agrees k = Right.step_looking j job d files owners settles locked sound is agrees k
  own_step d files owners settles locked sound (Undoing r n ns ls th) e is agrees k = Mending.step_undoing j job d files owners settles locked sound r n ns ls th is agrees k
  own_step d files owners settles locked sound (Placing r x xs ls th) e is agrees k = Mending.step_placing j job d files owners settles locked sound r x xs ls th is agrees k
  own_step d files owners settles locked sound (Testing r x xs ls) e is agrees k = Removals.step_testing j job d files owners settles locked sound r x xs ls is agrees k
  own_step d files owners settles locked sound (Removing r x xs ls th) e is agrees k = Removals.step_removing j job d files owners settles locked sound r x xs ls th is agrees k
  own_step d files owners settles locked sound (Extending r x xs ls th) e is agrees k = Removals.step_extending j job d files owners settles locked sound r x xs ls th is agrees k
  own_step d files owners settles locked sound (Discarding r x xs ls th) e is agrees k = Removals.step_discarding j job d files owners settles locked sound r x xs ls th is agrees k
  own_step d files owners settles locked sound (Unlocking r n ns th) e is agrees k = Closing.step_unlocking j job d files owners settles locked sound r n ns th is agrees k
  own_step d files owners settles locked sound (Erasing r th) e is agrees k = Closing.step_erasing j job d files owners settles locked sound r th is agrees k
  own_step d files owners settles locked sound (Clearing found) e is agrees k = OwnRecord.step_clearing j job d files owners settles locked sound found is agrees k
  own_step d files owners settles locked sound Preparing e is agrees k = OwnRecord.step_preparing j job d files owners settles locked sound is k
  own_step d files owners settles locked sound Publishing e is agrees k = OwnRecord.step_publishing j job d files owners settles locked sound is agrees k
  own_step d files owners settles locked sound (Locking ls x left) e is agrees k = Making.step_locking j job d files owners settles locked sound ls x left is agrees k
  own_step d files owners settles locked sound (Loading made x left) e is agrees k = Making.step_loading j job d files owners settles locked sound made x left is agrees k
  own_step d files owners settles locked sound (Staging ns made x left) e is agrees k = Making.step_staging j job d files owners settles locked sound ns made x left is k
  own_step d files owners settles locked sound (Deciding made) e is agrees k = Decision.step_deciding j job d files owners settles locked sound made is k
  own_step d files owners settles locked sound (Committing made) e is agrees k = Decision.step_committing j job d files owners settles locked sound made is agrees k
  own_step d files owners settles locked sound Checking e is agrees k = Right.step_checking j job d files owners settles locked sound is
  own_step d files owners settles locked sound (Releasing a) e is agrees k = Right.step_releasing j job d files owners settles locked sound a is k
  own_step d files owners settles locked sound (Ended a) e is agrees k = absurd is

  -- what shows and what is known at the end of events
  pub record Safe (d : Disk) (files : Files) (owners : Locks) (es : List Event) (last : State) : Type 0 where
    pub due : IsSettledAs j.actor (disk d es) (files_after j d files es) (locks_after j d owners es)
    pub knows : Knows j last (disk d es)

  pub known_now : (d : Disk) (s now : State) → (now ≡ s) ⊎ (now ≡ refused j s) → Knows j s d → Knows j now d
  known_now d s now (inl p) k = subst (λ (z : State). Knows j z d) (sym p) k
  known_now d s now (inr p) k = subst (λ (z : State). Knows j z d) (sym p) (knows_refused j d s k)

  pub safe : (es : List Event) (s last : State) (d : Disk) (files : Files) (owners : Locks) → ((n : List ℕ) → settled_files j.actor d n ≡ files n)
      → ((n : List ℕ) → settled_locks j.actor d n ≡ owners n) → IsSound j.actor d → Knows j s d → Goes j s (own es) last → Honest d es
      → OthersAreLawful j.actor j.token d es → Safe d files owners es last
  safe [] s last d files owners settles locked sound k goes honest lawful = record {
    due = record { same_files = settles; same_locks = locked; sound = sound };
    knows = known_now d s last (elim goes [ inl p ↦ inl (sym p) | inr p ↦ inr (sym p) ]) k;
  }
  safe (event.Foreign f ∷ es) s last d files owners settles locked sound k goes honest lawful =
      let more = safe es s last (after_step d f) (files_then j (event.Foreign f) d files) (locks_then j (event.Foreign f) d owners)
      (λ n. renewed_is same_file file_true (settled_files j.actor d n) (settled_files j.actor (after_step d f) n) (files n) (settles n))
      (λ n. renewed_is same_lock lock_true (settled_locks j.actor d n) (settled_locks j.actor (after_step d f) n) (owners n) (locked n))
      lawful.1 (others_knows j d (after_step d f) (lawful_keeps j.actor j.token d f lawful.0) s k) goes honest.1 lawful.2 in
      record { due = more.due; knows = more.knows }
  safe (e ∷ es) s last d files owners settles locked sound k goes honest lawful =
      let kept = own_step d files owners settles locked sound goes.0 e goes.2 honest.0 (known_now d s goes.0 goes.1 k) in
      let more = safe es (after_reply j goes.0 (reply e)) last (after d e) (files_then j e d files) owners kept.shows.settles kept.shows.locked kept.shows.sound kept.knows goes.3 honest.1 lawful in
      record { due = more.due; knows = more.knows }

pub run_safe : (j : Job) (d : Disk) (es : List Event) (last : State) → IsRun j d es last
    → IsSettledAs j.actor (disk d es) (files_after j d (settled_files j.actor d) es) (locks_after j d (settled_locks j.actor d) es) × Knows j last (disk d es)
run_safe j d es last run =
    let all = safe j run.job es Seizing last d (settled_files j.actor d) (settled_locks j.actor d) (λ n. refl) (λ n. refl) run.sound run.fresh run.goes run.honest run.lawful in
    (all.due, all.knows)

pub crash_safe : CrashSafe
crash_safe j d es last run = (run_safe j d es last run).0

pub nothing_left : NothingLeft
nothing_left j d es Done no_fault run = (run_safe j d es (Ended Done) run).1
nothing_left j d es (Recovered found) no_fault run = (run_safe j d es (Ended (Recovered found)) run).1
nothing_left j d es (Refused why) no_fault run = (run_safe j d es (Ended (Refused why)) run).1
nothing_left j d es (Failed passed) no_fault run = absurd no_fault
nothing_left j d es NoMemory no_fault run = (run_safe j d es (Ended NoMemory) run).1
