-- The laws of the machine, of a commit.
use Rattle.std.proofs.Common.{◌≡◌, ◌<◌, ◌^◌, arith, ℕ, ℤ, List, [], ◌∷◌, ◌++◌, Option, Some, None, refl, sym, subst, inl, inr, ◌∙◌}
use Rattle.std.specs.Option.{option_map}
use Rattle.std.specs.declared.result.Result.{Result}
use Rattle.std.specs.declared.result.Result.TheVariants.{Ok, Err}
use Rattle.host_port.specs.declared.event.Event.{Event}
use Rattle.host_port.specs.Disk.{Disk, disk}
use Rattle.host_port.specs.Calls.{Counts, World}
use Rattle.host_port.specs.Own.{own}
use Rattle.host_port.specs.Ran.{Honest, Ran}
use Rattle.host_port.proofs.RanLemmas.{Ran-since}
use Rattle.folder_change.specs.declared.change.Change.{Change}
use Rattle.folder_change.specs.Apply.{apply}
use Rattle.commit_machine.specs.Refusals.{ChangeRefusal, first_refusal}
use Rattle.commit_machine.specs.Settled.{Files}
use Rattle.commit_machine.specs.Settled.{Mem}
use Rattle.commit_machine.specs.Jobs.{Ending, Job, IsJob, at_time, edits_of, all_of}
use Rattle.commit_machine.specs.Due.{settled_files, applied}
use Rattle.commit_machine.specs.Edits.{cause_of, job_for, timed_for}
use Rattle.commit_machine.specs.Machine.{Ended}
use Rattle.commit_machine.specs.Laws.{IsRun, TellsDecisions}
use Rattle.commit_machine.specs.Laws as laws
use Rattle.commit_machine.specs.Runs.{made_after, RunsSafely}
use Rattle.commit_machine.proofs.runs.Moments.{nothing_left}
use Rattle.commit_machine.proofs.records.Edits.{edits_are_changes}
use Rattle.commit_machine.proofs.told.Decisions.{decisions_are_told}
use Rattle.commit_machine.proofs.told.Refusals.{no_refused_is_decided}
use Rattle.commit_machine.proofs.runs.Safety.{after_made, runs_are_safe}
use Rattle.commit_driver.specs.declared.step.Passed.TheVariants as passed
use Rattle.folder_commit.specs.declared.error.CommitError.{CommitError}
use Rattle.folder_commit.specs.declared.error.CommitError.TheVariants as error
use Rattle.folder_commit.specs.Ends.{AnswersAs, Commits, CommitCause}
use Rattle.folder_commit.specs.Plans.{AreFiles}
use Rattle.folder_commit.specs.Commits.{IsCommit}
use Rattle.folder_commit.specs.Safe.{MayCommit, DecidedSo, MetNoFault, CommitsSafely, IsSafe, IsOkOrMemory, IsComplete}
use Rattle.commit_driver.proofs.JudgeLemmas.{are-named}
use Rattle.folder_commit.proofs.PlanLemmas.{is-job, all-of-job}
use Rattle.folder_commit.proofs.TellLemmas.{alike}
use Rattle.folder_commit.proofs.BusyLemmas.{busy-met, completes}

-- the answer says how often there was a decision
pub decided-so : (files : List (List ℕ)) (result : Result Unit CommitError) (end : Ending) (n : ℕ) → AnswersAs files result end → TellsDecisions end n → DecidedSo result n
decided-so files (Ok u) end n is told = rw is at told
decided-so files (Err (error.Busy name)) end n is told = rw is at told
decided-so files (Err error.Record) end n is told = rw is at told
decided-so files (Err (error.Changed name at)) end n is told = rw is at told
decided-so files (Err (error.TooLarge name k)) end n is told = rw is at told
decided-so files (Err (error.Disk passed.Before)) end n is told = rw is at told
decided-so files (Err (error.Disk passed.After)) end n is told = rw is at told
decided-so files (Err (error.Disk passed.Unknown)) end n is told = rw is at told
decided-so files (Err error.Memory) end n (inl is) told = rw is at told
decided-so files (Err error.Memory) end n (inr is) told = let e = is.2 in rw e at told
decided-so files (Err (error.TooManyNames k)) end n is told = absurd is

no-fault : (files : List (List ℕ)) (result : Result Unit CommitError) (end : Ending) → AnswersAs files result end → MetNoFault result → laws.MetNoFault end
no-fault files (Ok u) end is m = subst laws.MetNoFault (sym is) tt
no-fault files (Err (error.Busy name)) end is m = subst laws.MetNoFault (sym is) tt
no-fault files (Err error.Record) end is m = subst laws.MetNoFault (sym is) tt
no-fault files (Err (error.Changed name at)) end is m = subst laws.MetNoFault (sym is) tt
no-fault files (Err (error.TooLarge name k)) end is m = subst laws.MetNoFault (sym is) tt
no-fault files (Err (error.Disk p)) end is m = absurd m
no-fault files (Err error.Memory) end (inl is) m = subst laws.MetNoFault (sym is) tt
no-fault files (Err error.Memory) end (inr is) m = subst laws.MetNoFault (sym is.2) tt
no-fault files (Err (error.TooManyNames k)) end is m = absurd is

-- no change is refused
no-cause : (o : Option ChangeRefusal) → option_map cause_of o ≡ None → o ≡ None
no-cause None h = refl
no-cause (Some why) h = absurd (cc)

-- what a run makes of the disk doesn't depend on its time
untimed : (make : Files → Files) (j : Job) (time : Option ℤ) (d : Disk) (es : List Event) → RunsSafely make (at_time time j) d es → RunsSafely make j d es
untimed make j time d es safe = record {
  moments = λ front rest is. let due = safe.moments front rest is in record { same_files = due.same_files; same_locks = due.same_locks; sound = due.sound };
  stops = λ front rest e part is. let due = safe.stops front rest e part is in record { same_files = due.same_files; same_locks = due.same_locks; sound = due.sound };
  right_given_up = safe.right_given_up;
  nothing_after_a_fault = safe.nothing_after_a_fault;
  published = safe.published;
  kept_out = safe.kept_out;
  locked_out = safe.locked_out;
  only_calls = safe.only_calls;
}

safely : (actor : List ℕ) (token : ℕ) (time : ℤ) (c : Change) (cs : List Change) (base : List (List ℕ)) (d : Disk) (es : List Event)
    (result : Result Unit CommitError) → IsJob (timed_for actor token time (c ∷ cs) base)
    → MayCommit actor token d es → Honest d es → Commits (timed_for actor token time (c ∷ cs) base) (own es) result → CommitsSafely (job_for actor token (c ∷ cs) base) (c ∷ cs) base d es result
safely actor token time c cs base d es result job may honest h =
    let j = timed_for actor token time (c ∷ cs) base in
    let make = apply (c ∷ cs) base in
    let run : IsRun j d es (Ended h.end) = record { job = job; fresh = may.fresh; sound = may.sound; goes = h.goes; honest = honest; lawful = may.lawful } in
    let G : List Event → Type 0 = λ es. IsRun j d es (Ended h.end) in
    let names = all_of j in
    let named = are-named names (c ∷ cs) (all-of-job actor token (c ∷ cs) base) in
    let makes : (files : Files) (n : List ℕ) → applied (edits_of j) files n ≡ make files n = λ files n. edits_are_changes (c ∷ cs) base files n in
    let safe = untimed make (job_for actor token (c ∷ cs) base) (Some time) d es (runs_are_safe make j d es h.end makes run) in
    record {
      run = safe;
      decided = decided-so names result h.end _ h.is_as (decisions_are_told j d es h.end run);
      fits = λ front rest e is at.
          let (files, due, none) = no_refused_is_decided j d front e rest (Ended h.end) (subst G is run) at in
          let now = made_after make j d (settled_files j.actor d) front in
          let same : (n : List ℕ) → Mem n names → now n ≡ files n = λ n m. sym (due n m ∙ after_made make j makes front d (settled_files j.actor d) (settled_files j.actor d) (λ k. refl) n) in
          alike names (c ∷ cs) base now files named same ∙ no-cause (first_refusal (c ∷ cs) base files) none;
      nothing_left = λ m. nothing_left j d es h.end (no-fault names result h.end h.is_as m) run;
      busy = λ name is. busy-met make actor token time c cs base d es job safe name (subst (Commits j (own es)) is h);
    }

is-safe : (actor : List ℕ) (token : ℕ) (changes : List Change) (base : List (List ℕ)) (d : Disk) (es : List Event) (result : Result Unit CommitError) → token < 2 ^ 64 → AreFiles actor changes
    → MayCommit actor token d es → Honest d es → IsCommit actor token changes base (own es) result → IsSafe actor token changes base d es result
is-safe actor token [] base d es result fits files may honest h = tt
is-safe actor token (c ∷ cs) base d es result fits files may honest (inl many) = λ few. absurd (omega (arith, few, many.0))
is-safe actor token (c ∷ cs) base d es result fits files may honest (inr h) =
    λ few. safely actor token h.1.0 c cs base d es result (is-job actor token h.1.0 (c ∷ cs) base fits files (omega arith) few) may honest h.1.1

pub is-complete : (actor : List ℕ) (token : ℕ) (changes : List Change) (base : List (List ℕ)) (d : Disk) (es : List Event) (before now : Counts)
    (result : Result Unit CommitError) → token < 2 ^ 64 → AreFiles actor changes
    → CommitCause before now result → MayCommit actor token d es → Honest d es → IsCommit actor token changes base (own es) result → IsComplete actor changes base (own es) before now result
is-complete actor token [] base d es before now result fits files cause may honest h quiet free = subst IsOkOrMemory (sym h.1) tt
is-complete actor token (c ∷ cs) base d es before now result fits files cause may honest (inl many) quiet free = let few = free.few in absurd (omega (arith, few, many.0))
is-complete actor token (c ∷ cs) base d es before now result fits files cause may honest (inr h) quiet free =
    let time = h.1.0 in
    let job = is-job actor token time (c ∷ cs) base fits files (omega arith) free.few in
    let safe = safely actor token time c cs base d es result job may honest h.1.1 in
    completes (apply (c ∷ cs) base) actor token time c cs base d es job safe.run before now result h.1.1 cause quiet free

-- of a host that tells its trace
pub ran-safely : {H : Type 0} {w : World H} {old new : H} (actor : List ℕ) (token : ℕ) (changes : List Change) (base : List (List ℕ)) (result : Result Unit CommitError) (before es : List Event)
    → token < 2 ^ 64 → AreFiles actor changes → Ran w old new (λ own_ones. IsCommit actor token changes base own_ones result)
    → w.told old ≡ Some before → w.told new ≡ Some (before ++ es) → MayCommit actor token (disk (w.start old) before) es → IsSafe actor token changes base (disk (w.start old) before) es result
ran-safely {w = w} {old = old} actor token changes base result before es fits files ran at to may =
    let t = Ran-since {P = λ own_ones. IsCommit actor token changes base own_ones result} before es ran at to in
    is-safe actor token changes base (disk (w.start old) before) es result fits files may t.0 t.1

pub ran-completely : {H : Type 0} {w : World H} {old new : H} (actor : List ℕ) (token : ℕ) (changes : List Change) (base : List (List ℕ)) (result : Result Unit CommitError) (before es : List Event)
    → token < 2 ^ 64 → AreFiles actor changes → CommitCause (w.counts old) (w.counts new) result → Ran w old new (λ own_ones. IsCommit actor token changes base own_ones result)
    → w.told old ≡ Some before → w.told new ≡ Some (before ++ es) → MayCommit actor token (disk (w.start old) before) es → IsComplete actor changes base (own es) (w.counts old) (w.counts new) result
ran-completely {w = w} {old = old} {new = new} actor token changes base result before es fits files cause ran at to may =
    let t = Ran-since {P = λ own_ones. IsCommit actor token changes base own_ones result} before es ran at to in
    is-complete actor token changes base (disk (w.start old) before) es (w.counts old) (w.counts new) result fits files cause may t.0 t.1
