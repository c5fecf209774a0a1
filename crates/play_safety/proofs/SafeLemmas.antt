-- The traces of plays are safe.
use Rattle.std.proofs.Common.{◌≡◌, ◌⊎◌, ℕ, ℤ, ◌<◌, ◌^◌, ◌+◌, ◌==◌, true, false, List, [], ◌∷◌, ◌++◌, Option, Some, None, map, length, if◌then◌else◌, refl, ap, sym, subst, inl, inr, ◌∙◌, arith, append_assoc, append-nil, length-append}
use Rattle.std.proofs.lemmas.List.{map-append}
use Rattle.std.specs.List.{list_any}
use Rattle.std.specs.Option.{option_map}
use Rattle.std.specs.declared.result.Result.{Result}
use Rattle.std.specs.declared.result.Result.TheVariants.{Ok, Err}
use Rattle.host_port.specs.declared.event.Event.{Event}
use Rattle.host_port.specs.declared.event.Event.TheVariants as event
use Rattle.host_port.specs.Disk.{Disk, after, after_step, disk}
use Rattle.host_port.specs.Own.{own, OnlyLooks}
use Rattle.host_port.specs.Ran.{Honest}
use Rattle.host_port.proofs.RanLemmas.{disk-append}
use Rattle.folder_change.specs.declared.change.Change.{Change}
use Rattle.commit_machine.specs.Refusals.{first_refusal}
use Rattle.commit_machine.specs.Settled.{Files, Locks}
use Rattle.commit_machine.specs.Jobs.{Before, Refusal, Ending, Refused, Failed, NoMemory, Edit, Job, IsJob, all_of}
use Rattle.commit_machine.specs.Jobs as jobs
use Rattle.commit_machine.specs.Machine.{State, Seizing, Ended}
use Rattle.commit_machine.specs.Goes.{Goes}
use Rattle.commit_machine.specs.Edits.{edits_for, cause_of, job_for, timed_for, recovery_for}
use Rattle.commit_machine.specs.Lawful.{IsFresh, OthersAreLawful}
use Rattle.commit_machine.specs.Laws.{IsRun, IsSettledAs, MetNoFault, decisions}
use Rattle.commit_machine.specs.Restraints.{is_failed}
use Rattle.commit_machine.specs.Rows.{first_job, queue_after, run_files, run_locks, IsBracket}
use Rattle.commit_machine.proofs.runs.Moments.{nothing_left}
use Rattle.commit_machine.proofs.runs.Ends.{lawful_front}
use Rattle.commit_machine.proofs.told.Decisions.{few_decisions}
use Rattle.folder_recovery.specs.declared.error.RecoverError.TheVariants as recover
use Rattle.folder_recovery.specs.Recovering.{found}
use Rattle.folder_recovery.proofs.SafeLemmas.{recovery-is-job}
use Rattle.folder_recovery.proofs.UndecidedLemmas.{recovery-undecided}
use Rattle.folder_commit.specs.declared.error.CommitError.{CommitError}
use Rattle.folder_commit.specs.declared.error.CommitError.TheVariants as error
use Rattle.folder_commit.specs.Commits.{IsCommit}
use Rattle.folder_commit.specs.Ends.{AnswersAs}
use Rattle.folder_commit.specs.Plans.{AreFiles}
use Rattle.folder_commit.proofs.PlanLemmas.{is-job}
use Rattle.folder_commit.proofs.ToldLemmas.{tells-faults}
use Rattle.session_play.specs.declared.changing.Attempt.{Attempt}
use Rattle.session_play.specs.declared.changing.Attempt.TheVariants.{Made, Misnamed}
use Rattle.session_play.specs.declared.changing.Committed.{Committed}
use Rattle.session_play.specs.declared.changing.Committed.TheVariants as committed
use Rattle.session_play.specs.declared.stop.Stop.{Stop}
use Rattle.session_play.specs.declared.stop.Stop.TheVariants as stop
use Rattle.session_play.specs.Committing.{Commit, answer_as}
use Rattle.session_play.specs.declared.recovering.RecoveryAnswer.{RecoveryAnswer}
use Rattle.session_play.specs.declared.recovering.RecoveryAnswer.TheVariants as recovery
use Rattle.session_play.specs.Recovering.{recovery_as, IsRecoveryOf}
use Rattle.session_play.specs.Acts.{is_neutral, AllEnds}
use Rattle.session_play.proofs.ShapeLemmas.{came-same}
use Rattle.session_play.specs.Play.{Act, Answer, Line, Say, Read, Try, Changes, Recover, Child, Editor, Now, Know, Play, Ret, Ask, Did, Partly, Next, Go, Last}
use Rattle.session_play.proofs.CommitLemmas.{answer-fine}
use Rattle.session_play.proofs.NamingLemmas.{named-files}
use Rattle.session_play.proofs.LooksLemmas.{neutral-did, neutral-part}
use Rattle.play_safety.specs.Passes.{decided_in, accepted_by, Commits, behind, at_cut, Passes, PassesAll, again, last, cut}
use Rattle.play_safety.specs.Safe.{IsBy, OfCommit, EachCommit, queue_of, queue, IsCalm, NextKeeps}
use Rattle.commit_machine.proofs.runs.OneJob.{Stands, Due, Leaves, between, not-decided, was-decided, after-piece, due-then, queue-split, honest-back, run-of}
use Rattle.play_safety.proofs.TraceLemmas.{looks-undecided, decisions-then, decisions-same, decisions-untimed}
use Rattle.play_safety.proofs.CoverLemmas.{Covers, looks-covered, covers-then, bracket-covered, calm-undecided, never-undecided}

end-fine : (a : Committed) (files : List (List ℕ)) (end : Ending) → AnswersAs files (answer_as a) end → MetNoFault end
end-fine committed.Done files end is = subst MetNoFault (sym is) tt
end-fine (committed.Busy name) files end is = subst MetNoFault (sym is) tt
end-fine committed.NotARecord files end is = subst MetNoFault (sym is) tt
end-fine (committed.Changed name at) files end is = subst MetNoFault (sym is) tt
end-fine (committed.TooLarge name n) files end is = subst MetNoFault (sym is) tt
end-fine (committed.TooManyNames n) files end never = absurd never

memory-fine : (files : List (List ℕ)) (end : Ending) → AnswersAs files (Err error.Memory) end → MetNoFault end
memory-fine files end (inl is) = subst MetNoFault (sym is) tt
memory-fine files end (inr is) = subst MetNoFault (sym is.2) tt

pub lawful-back : (actor : List ℕ) (token : ℕ) (xs ys : List Event) (d : Disk) → OthersAreLawful actor token d (xs ++ ys) → OthersAreLawful actor token (disk d xs) ys
lawful-back actor token [] ys d h = h
lawful-back actor token (event.Foreign f ∷ xs) ys d h = lawful-back actor token xs ys (after_step d f) h.2
lawful-back actor token (e ∷ xs) ys d h = lawful-back actor token xs ys (after d e) h

pub honest-front : (xs ys : List Event) (d : Disk) → Honest d (xs ++ ys) → Honest d xs
honest-front [] ys d h = tt
honest-front (x ∷ xs) ys d h = (h.0, honest-front xs ys (after d x) h.1)

none-looks : (es : List Event) → own es ≡ [] → OnlyLooks (own es)
none-looks es is = subst OnlyLooks (sym is) tt

module _ (actor : List ℕ) (token : ℕ) where
  abbrev pub counted : Disk → List Event → ℕ
  counted d es = decisions (first_job actor token []) d 0 es

  settled-of : (d : Disk) (files : Files) (owners : Locks) → Stands actor token d files owners → IsSettledAs actor d files owners
  settled-of d files owners s = record { same_files = s.settles; same_locks = s.locked; sound = s.sound }

  -- A stretch is safe: what is left of the queue where it came to its end, how many decisions it holds, and that it is calm.
  pub record Passed (ended calm : Type 0) (d : Disk) (queue left : List (List Edit)) (n : ℕ) (files : Files) (owners : Locks) (es : List Event) : Type 0 where
    pub covers : Covers actor token d queue files owners es
    pub leaves : ended → Leaves actor token d queue left files owners es
    pub count : counted d es ≡ n
    pub fresh : calm → IsFresh actor token (disk d es)

  pub passed-as : {ended calm : Type 0} (d : Disk) (queue other left : List (List Edit)) (n m : ℕ) (files : Files) (owners : Locks) (es : List Event) → queue ≡ other → n ≡ m
      → Passed ended calm d queue left n files owners es → Passed ended calm d other left m files owners es
  passed-as {ended = ended} {calm = calm} d queue other left n m files owners es q k p =
      subst (λ (q : List (List Edit)). Passed ended calm d q left m files owners es) q (subst (λ (k : ℕ). Passed ended calm d queue left k files owners es) k p)

  looks-passed : {ended calm : Type 0} (d : Disk) (queue : List (List Edit)) (files : Files) (owners : Locks) (es : List Event)
      → Stands actor token d files owners → OnlyLooks (own es) → OthersAreLawful actor token d es
      → Passed ended calm d queue queue 0 files owners es
  looks-passed d queue files owners es s looks lawful =
      let l = between actor token es d queue files owners s looks lawful in
      record {
        covers = looks-covered actor token d queue files owners (settled-of d files owners s) es looks lawful;
        leaves = λ e. l;
        count = looks-undecided (first_job actor token []) es d 0 looks;
        fresh = λ c. l.fresh;
      }

  passed-then : {ended calm : Type 0} (d : Disk) (queue mid left : List (List Edit)) (n m : ℕ) (files : Files) (owners : Locks) (xs ys : List Event)
      → Passed (Unit {0}) (Unit {0}) d queue mid n files owners xs
      → Passed ended calm (disk d xs) mid left m (run_files actor token d queue files xs) (run_locks actor token d owners xs) ys → Passed ended calm d queue left (n + m) files owners (xs ++ ys)
  passed-then d queue mid left n m files owners xs ys x y =
      let one = x.leaves tt in
      let at : disk (disk d xs) ys ≡ disk d (xs ++ ys) = sym (disk-append d xs ys) in
      record {
        covers = covers-then actor token d queue mid files owners xs ys one.rest x.covers y.covers;
        leaves = λ e. let later = y.leaves e in record {
          due = subst (Due actor token d queue files owners (xs ++ ys)) at (due-then actor token d (disk (disk d xs) ys) queue mid files owners xs ys one.rest later.due);
          fresh = subst (IsFresh actor token) at later.fresh;
          rest = queue-split actor token xs ys d queue ∙ ap (λ (q : List (List Edit)). queue_after actor token (disk d xs) q ys) one.rest ∙ later.rest;
        };
        count = decisions-then (first_job actor token []) xs ys d ∙ (let a = x.count in let b = y.count in let both : counted d xs + counted (disk d xs) ys ≡ n + m = omega (arith, a, b) in both);
        fresh = λ c. subst (IsFresh actor token) at (y.fresh c);
      }

  module _ (cs : List Change) (base : List (List ℕ)) (d : Disk) (files : Files) (owners : Locks) (es : List Event)
      (fits : token < 2 ^ 64) (s : Stands actor token d files owners) (honest : Honest d es) (lawful : OthersAreLawful actor token d es) where
    abbrev commit : Commit
    commit = record { actor = actor; token = token; changes = cs; base = base }

    abbrev untimed : Job
    untimed = job_for actor token cs base

    abbrev job : ℤ → Job
    job time = timed_for actor token time cs base

    abbrev edits : Option (List Edit)
    edits = Some (edits_for cs base)

    abbrev refusal : Files → Option Refusal
    refusal = λ files. option_map cause_of (first_refusal cs base files)

    abbrev bracket : (time : ℤ) (end : Ending) → IsJob (job time) → Goes (job time) Seizing (own es) (Ended end) → IsBracket actor token d edits refusal (Ended end) es
    bracket time end j goes = record { time = Some time; job = j; goes = goes; honest = honest; lawful = lawful }

    runs : (time : ℤ) (end : Ending) → IsJob (job time) → Goes (job time) Seizing (own es) (Ended end) → IsRun (job time) d es (Ended end)
    runs time end j goes = run-of actor token edits refusal d (Ended end) es files owners s (bracket time end j goes)

    same-count : counted d es ≡ decided_in commit d es
    same-count = decisions-same untimed [] es d 0

    timed-count : (time : ℤ) → decisions (job time) d 0 es ≡ decided_in commit d es
    timed-count time = decisions-untimed untimed (Some time) es d 0

    undecided-none : decided_in commit d es ≡ 0 → accepted_by (Changes commit) d es ≡ []
    undecided-none none = ap (λ (n : ℕ). if n == 0 then [] else commit ∷ []) none

    decided-one : decided_in commit d es ≡ 1 → accepted_by (Changes commit) d es ≡ commit ∷ []
    decided-one one = ap (λ (n : ℕ). if n == 0 then [] else commit ∷ []) one

    -- what an answered commit leaves
    abbrev Answers : List (List Edit) → List Commit → Type 0
    Answers more acc = Passed (Unit {0}) (Unit {0}) d (queue_of acc ++ more) more (length acc) files owners es

    answered : (more : List (List Edit)) (acc : List Commit) → accepted_by (Changes commit) d es ≡ acc → Answers more acc → Answers more (accepted_by (Changes commit) d es)
    answered more acc is p = subst (Answers more) (sym is) p

    answered-none : (more : List (List Edit)) → own es ≡ [] → Answers more (accepted_by (Changes commit) d es)
    answered-none more none =
        answered more [] (undecided-none (looks-undecided untimed es d 0 (none-looks es none))) (looks-passed d more files owners es s (none-looks es none) lawful)

    answered-so : (more : List (List Edit)) (time : ℤ) (end : Ending) → IsJob (job time) → Goes (job time) Seizing (own es) (Ended end) → MetNoFault end → list_any is_failed (own es) ≡ false
        → (decided_in commit d es ≡ 0) ⊎ (decided_in commit d es ≡ 1) → Answers more (accepted_by (Changes commit) d es)
    answered-so more time end j goes fine calls (inl none) =
        let b = bracket time end j goes in
        let none_so = timed-count time ∙ none in
        let l = not-decided actor token edits refusal (Some time) d more files owners es end s (runs time end j goes) fine none_so in
        answered more [] (undecided-none none) (record {
          covers = bracket-covered actor token edits refusal d files owners s es (Ended end) b more (inr (calm-undecided actor token edits refusal d files owners s es (Ended end) b none_so calls));
          leaves = λ e. l;
          count = same-count ∙ none;
          fresh = λ c. l.fresh;
        })
    answered-so more time end j goes fine calls (inr one) =
        let b = bracket time end j goes in
        let queue = edits_for cs base ∷ more in
        let l = was-decided actor token edits refusal (Some time) d more files owners es end s (runs time end j goes) fine (timed-count time ∙ one) in
        answered more (commit ∷ []) (decided-one one) (record {
          covers = bracket-covered actor token edits refusal d files owners s es (Ended end) b queue (inl (more, refl));
          leaves = λ e. l;
          count = same-count ∙ one;
          fresh = λ c. l.fresh;
        })

    few : (time : ℤ) (end : Ending) → IsJob (job time) → Goes (job time) Seizing (own es) (Ended end) → (decided_in commit d es ≡ 0) ⊎ (decided_in commit d es ≡ 1)
    few time end j goes = elim (few_decisions (job time) d es (Ended end) (runs time end j goes)) [
      | inl none ↦ inl (sym (timed-count time) ∙ none)
      | inr one ↦ inr (sym (timed-count time) ∙ one)
    ]

    -- what a cut leaves
    abbrev Cuts : (Type 0) → List (List Edit) → Commits → Type 0
    Cuts calm more found = Passed ⊥ calm d (queue found ++ more) more (length found.accepted) files owners es

    at-none : decided_in commit d es ≡ 0 → at_cut (Changes commit) d es ≡ record { accepted = []; pending = commit ∷ [] }
    at-none none = ap (λ (n : ℕ). record { accepted = if n == 0 then [] else commit ∷ []; pending = if n == 0 then commit ∷ [] else [] }) none

    at-one : decided_in commit d es ≡ 1 → at_cut (Changes commit) d es ≡ record { accepted = commit ∷ []; pending = [] }
    at-one one = ap (λ (n : ℕ). record { accepted = if n == 0 then [] else commit ∷ []; pending = if n == 0 then commit ∷ [] else [] }) one

    cut-none : {calm : Type 0} (more : List (List Edit)) → own es ≡ [] → Cuts calm more (at_cut (Changes commit) d es)
    cut-none {calm = calm} more none =
        let queue = edits_for cs base ∷ more in
        let looks = none-looks es none in
        let l = between actor token es d queue files owners s looks lawful in
        subst (Cuts calm more) (sym (at-none (looks-undecided untimed es d 0 looks))) (record {
          covers = looks-covered actor token d queue files owners (settled-of d files owners s) es looks lawful;
          leaves = λ never. absurd never;
          count = looks-undecided (first_job actor token []) es d 0 looks;
          fresh = λ c. l.fresh;
        })

    cut-so : {calm : Type 0} (more : List (List Edit)) (time : ℤ) (end : Ending) → IsJob (job time) → Goes (job time) Seizing (own es) (Ended end) → (calm → MetNoFault end)
        → (decided_in commit d es ≡ 0) ⊎ (decided_in commit d es ≡ 1) → Cuts calm more (at_cut (Changes commit) d es)
    cut-so {calm = calm} more time end j goes fine (inl none) =
        let b = bracket time end j goes in
        subst (Cuts calm more) (sym (at-none none)) (record {
          covers = bracket-covered actor token edits refusal d files owners s es (Ended end) b (edits_for cs base ∷ more) (inl (more, refl));
          leaves = λ never. absurd never;
          count = same-count ∙ none;
          fresh = λ c. nothing_left (job time) d es end (fine c) (runs time end j goes);
        })
    cut-so {calm = calm} more time end j goes fine (inr one) =
        let b = bracket time end j goes in
        subst (Cuts calm more) (sym (at-one one)) (record {
          covers = bracket-covered actor token edits refusal d files owners s es (Ended end) b (edits_for cs base ∷ more) (inl (more, refl));
          leaves = λ never. absurd never;
          count = same-count ∙ one;
          fresh = λ c. nothing_left (job time) d es end (fine c) (runs time end j goes);
        })

  -- a recovery decides nothing
  module _ (d : Disk) (files : Files) (owners : Locks) (es : List Event)
      (fits : token < 2 ^ 64) (s : Stands actor token d files owners) (honest : Honest d es) (lawful : OthersAreLawful actor token d es) where
    abbrev recovers : Job
    recovers = recovery_for actor token

    abbrev no_refusal : Files → Option Refusal
    no_refusal = λ files. None

    recovery-passed : {ended calm : Type 0} (more : List (List Edit)) (end : Ending) → Goes recovers Seizing (own es) (Ended end) → (ended → MetNoFault end) → (calm → MetNoFault end)
        → Passed ended calm d more more 0 files owners es
    recovery-passed more end goes fine calms =
        let b : IsBracket actor token d None no_refusal (Ended end) es = record { time = None; job = recovery-is-job actor token fits; goes = goes; honest = honest; lawful = lawful } in
        let never : (l : List Event) (now : State) → IsRun recovers d l now → decisions recovers d 0 l ≡ 0 = λ l now run. recovery-undecided actor token l now d run.goes in
        let none = recovery-undecided actor token es (Ended end) d goes in
        let run : IsRun recovers d es (Ended end) = run-of actor token None no_refusal d (Ended end) es files owners s b in
        record {
          covers = bracket-covered actor token None no_refusal d files owners s es (Ended end) b more (inr (never-undecided actor token None no_refusal d files owners s es (Ended end) b never));
          leaves = λ e. not-decided actor token None no_refusal None d more files owners es end s run (fine e) none;
          count = decisions-same recovers [] es d 0 ∙ none;
          fresh = λ c. nothing_left recovers d es end (calms c) run;
        }

    recovery-answered : (a : RecoveryAnswer) (more : List (List Edit)) → IsRecoveryOf actor token (own es) (recovery_as a) → Passed (Unit {0}) (Unit {0}) d more more 0 files owners es
    recovery-answered (recovery.Done f) more h = recovery-passed more (jobs.Recovered (found f)) h.1 (λ e. tt) (λ c. tt)
    recovery-answered (recovery.Busy name) more h = recovery-passed more (Refused (jobs.Busy name)) h.1.1 (λ e. tt) (λ c. tt)
    recovery-answered recovery.NotARecord more h = recovery-passed more (Refused jobs.NotARecord) h.1 (λ e. tt) (λ c. tt)
    recovery-answered (recovery.TooLarge name n) more h = recovery-passed more (Refused (jobs.TooLarge name n)) h.1.1 (λ e. tt) (λ c. tt)

    recovery-failed : (more : List (List Edit)) → IsRecoveryOf actor token (own es) (Err recover.Disk) → Passed ⊥ ⊥ d more more 0 files owners es
    recovery-failed more h = recovery-passed more (Failed Before) h.1 (λ never. absurd never) (λ never. absurd never)

    recovery-short : (more : List (List Edit)) → IsRecoveryOf actor token (own es) (Err recover.Memory) → Passed ⊥ (Unit {0}) d more more 0 files owners es
    recovery-short more (fit, inl h) = recovery-passed more NoMemory h (λ e. tt) (λ c. tt)
    recovery-short more (fit, inr h) = recovery-passed more (Refused jobs.NotARecord) h (λ e. tt) (λ c. tt)

  module _ (fits : token < 2 ^ 64) where
    abbrev pub own_commit : List Change → List (List ℕ) → Commit
    own_commit cs base = record { actor = actor; token = token; changes = cs; base = base }

    abbrev pub Answered : Act → Disk → Files → Locks → List Event → List (List Edit) → Type 0
    Answered act d files owners es more = Passed (Unit {0}) (Unit {0}) d (queue_of (accepted_by act d es) ++ more) more (length (accepted_by act d es)) files owners es

    abbrev pub CutOff : Type 0 → Act → Disk → Files → Locks → List Event → List (List Edit) → Type 0
    CutOff calm act d files owners es more = Passed ⊥ calm d (queue (at_cut act d es) ++ more) more (length (accepted_by act d es)) files owners es

    commit-answered : (cs : List Change) (base : List (List ℕ)) (d : Disk) (files : Files) (owners : Locks) (es : List Event) → AreFiles actor cs
        → Stands actor token d files owners → Honest d es → OthersAreLawful actor token d es
        → (a : Committed) (more : List (List Edit)) → IsCommit actor token cs base (own es) (answer_as a) → Answered (Changes (own_commit cs base)) d files owners es more
    commit-answered [] base d files owners es are s honest lawful a more h = answered-none [] base d files owners es fits s honest lawful more h.0
    commit-answered (c ∷ cs) base d files owners es are s honest lawful a more (inl many) = answered-none (c ∷ cs) base d files owners es fits s honest lawful more many.1.0
    commit-answered (c ∷ cs) base d files owners es are s honest lawful a more (inr (few_names, (time, h))) =
        let job = timed_for actor token time (c ∷ cs) base in
        let j : IsJob job = is-job actor token time (c ∷ cs) base fits are (omega arith) few_names in
        answered-so (c ∷ cs) base d files owners es fits s honest lawful more time h.end j h.goes (end-fine a (all_of job) h.end h.is_as) (tells-faults job (own es) (answer_as a) h ∙ answer-fine a)
        (few (c ∷ cs) base d files owners es fits s honest lawful time h.end j h.goes)

    commit-cut : (calm : Type 0) (cs : List Change) (base : List (List ℕ)) (d : Disk) (files : Files) (owners : Locks) (es : List Event)
        → AreFiles actor cs → Stands actor token d files owners → Honest d es → OthersAreLawful actor token d es
        → (answer : Result Unit CommitError) (more : List (List Edit)) → ((names : List (List ℕ)) (end : Ending) → AnswersAs names answer end → calm → MetNoFault end)
        → IsCommit actor token cs base (own es) answer → CutOff calm (Changes (own_commit cs base)) d files owners es more
    commit-cut calm [] base d files owners es are s honest lawful answer more fine h = cut-none [] base d files owners es fits s honest lawful more h.0
    commit-cut calm (c ∷ cs) base d files owners es are s honest lawful answer more fine (inl many) = cut-none (c ∷ cs) base d files owners es fits s honest lawful more many.1.0
    commit-cut calm (c ∷ cs) base d files owners es are s honest lawful answer more fine (inr (few_names, (time, h))) =
        let job = timed_for actor token time (c ∷ cs) base in
        let j : IsJob job = is-job actor token time (c ∷ cs) base fits are (omega arith) few_names in
        cut-so (c ∷ cs) base d files owners es fits s honest lawful more time h.end j h.goes (fine (all_of job) h.end h.is_as)
        (few (c ∷ cs) base d files owners es fits s honest lawful time h.end j h.goes)

    commit-attempted : (cs : List Change) (base : List (List ℕ)) (d : Disk) (files : Files) (owners : Locks) (es : List Event)
        → Stands actor token d files owners → Honest d es → OthersAreLawful actor token d es
        → (a : Attempt) (more : List (List Edit)) → Did (Changes (own_commit cs base)) a (own es) → Answered (Changes (own_commit cs base)) d files owners es more
    commit-attempted cs base d files owners es s honest lawful (Made a) more (well, h) = commit-answered cs base d files owners es (named-files actor cs well) s honest lawful a more h
    commit-attempted cs base d files owners es s honest lawful (Misnamed name fault) more (is, none) = answered-none cs base d files owners es fits s honest lawful more none

    pub same-commit : (c : Commit) → IsBy actor token c → c ≡ own_commit c.changes c.base
    same-commit c by =
        ap (λ (a : List ℕ). record { actor = a; token = c.token; changes = c.changes; base = c.base }) by.actor_is
        ∙ ap (λ (t : ℕ). record { actor = actor; token = t; changes = c.changes; base = c.base }) by.token_is

    pub act-answered : (act : Act) (a : Answer act) (d : Disk) (files : Files) (owners : Locks) (es : List Event) (more : List (List Edit))
        → OfCommit (IsBy actor token) act → Stands actor token d files owners → Honest d es → OthersAreLawful actor token d es
        → Did act a (own es) → Answered act d files owners es more
    act-answered (Line i) a d files owners es more by s honest lawful did = looks-passed d more files owners es s (neutral-did (Line i) a (own es) refl did) lawful
    act-answered (Say bytes) a d files owners es more by s honest lawful did = looks-passed d more files owners es s (neutral-did (Say bytes) a (own es) refl did) lawful
    act-answered (Read name) a d files owners es more by s honest lawful did = looks-passed d more files owners es s (neutral-did (Read name) a (own es) refl did) lawful
    act-answered (Try name) a d files owners es more by s honest lawful did = looks-passed d more files owners es s (neutral-did (Try name) a (own es) refl did) lawful
    act-answered (Child program args input) a d files owners es more by s honest lawful did = looks-passed d more files owners es s (neutral-did (Child program args input) a (own es) refl did) lawful
    act-answered (Editor name shell command text) a d files owners es more by s honest lawful did =
        looks-passed d more files owners es s (neutral-did (Editor name shell command text) a (own es) refl did) lawful
    act-answered (Now tz) a d files owners es more by s honest lawful did = looks-passed d more files owners es s (neutral-did (Now tz) a (own es) refl did) lawful
    act-answered (Know texts) a d files owners es more by s honest lawful did = looks-passed d more files owners es s (neutral-did (Know texts) a (own es) refl did) lawful
    act-answered (Changes c) a d files owners es more by s honest lawful did =
        let P : Commit → Type 0 = λ c. Did (Changes c) a (own es) → Answered (Changes c) d files owners es more in
        subst P (sym (same-commit c by)) (λ h. commit-attempted c.changes c.base d files owners es s honest lawful a more h) did
    act-answered (Recover b t) a d files owners es more by s honest lawful did =
        let P : List ℕ → ℕ → Type 0 = λ b t. IsRecoveryOf b t (own es) (recovery_as a) in
        recovery-answered d files owners es fits s honest lawful a more (subst (P actor) by.token_is (subst (λ (b : List ℕ). P b t) by.actor_is did))

    looks-cut : (calm : Type 0) (d : Disk) (files : Files) (owners : Locks) (es : List Event) (more : List (List Edit))
        → Stands actor token d files owners → OthersAreLawful actor token d es → OnlyLooks (own es)
        → Passed ⊥ calm d more more 0 files owners es
    looks-cut calm d files owners es more s lawful looks = looks-passed d more files owners es s looks lawful

    -- how an act is cut off
    abbrev pub IsCutSo : Act → Stop → List Event → Type 0
    IsCutSo act cause es = ((cause ≡ stop.Memory) × (es ≡ [])) ⊎ Partly act cause es

    cut-looks : (act : Act) (cause : Stop) (es : List Event) → is_neutral act ≡ true → IsCutSo act cause es → OnlyLooks es
    cut-looks act cause es neutral (inl none) = subst OnlyLooks (sym none.1) tt
    cut-looks act cause es neutral (inr part) = neutral-part act cause es neutral part

    -- a fault of the disk isn't calm
    abbrev pub calm_at : Stop → Type 0
    calm_at cause = IsCalm {R = Unit {0}} (Err cause)

    commit-cut-by : (c : Commit) (cause : Stop) (d : Disk) (files : Files) (owners : Locks) (es : List Event) (more : List (List Edit))
        → IsBy actor token c → Stands actor token d files owners → Honest d es → OthersAreLawful actor token d es
        → Partly (Changes (own_commit c.changes c.base)) cause (own es) → CutOff (calm_at cause) (Changes (own_commit c.changes c.base)) d files owners es more
    commit-cut-by c stop.Disk d files owners es more by s honest lawful (well, (passed, h)) =
        commit-cut ⊥ c.changes c.base d files owners es (named-files actor c.changes well) s honest lawful (Err (error.Disk passed)) more (λ names end is never. absurd never) h
    commit-cut-by c stop.Memory d files owners es more by s honest lawful (well, h) =
        commit-cut (Unit {0}) c.changes c.base d files owners es (named-files actor c.changes well) s honest lawful (Err error.Memory) more (λ names end is calm. memory-fine names end is) h
    commit-cut-by c stop.Input d files owners es more by s honest lawful never = absurd never
    commit-cut-by c stop.Output d files owners es more by s honest lawful never = absurd never
    commit-cut-by c stop.TooMuch d files owners es more by s honest lawful never = absurd never

    commit-stopped : (c : Commit) (cause : Stop) (d : Disk) (files : Files) (owners : Locks) (es : List Event) (more : List (List Edit))
        → IsBy actor token c → Stands actor token d files owners → Honest d es → OthersAreLawful actor token d es
        → IsCutSo (Changes (own_commit c.changes c.base)) cause (own es) → CutOff (calm_at cause) (Changes (own_commit c.changes c.base)) d files owners es more
    commit-stopped c cause d files owners es more by s honest lawful (inl none) = cut-none c.changes c.base d files owners es fits s honest lawful more none.1
    commit-stopped c cause d files owners es more by s honest lawful (inr part) = commit-cut-by c cause d files owners es more by s honest lawful part

    recovery-cut-by : (cause : Stop) (d : Disk) (files : Files) (owners : Locks) (es : List Event) (more : List (List Edit))
        → Stands actor token d files owners → Honest d es → OthersAreLawful actor token d es
        → Partly (Recover actor token) cause (own es) → Passed ⊥ (calm_at cause) d more more 0 files owners es
    recovery-cut-by stop.Disk d files owners es more s honest lawful h = recovery-failed d files owners es fits s honest lawful more h
    recovery-cut-by stop.Memory d files owners es more s honest lawful h = recovery-short d files owners es fits s honest lawful more h
    recovery-cut-by stop.Input d files owners es more s honest lawful never = absurd never
    recovery-cut-by stop.Output d files owners es more s honest lawful never = absurd never
    recovery-cut-by stop.TooMuch d files owners es more s honest lawful never = absurd never

    recovery-stopped : (cause : Stop) (d : Disk) (files : Files) (owners : Locks) (es : List Event) (more : List (List Edit))
        → Stands actor token d files owners → Honest d es → OthersAreLawful actor token d es
        → IsCutSo (Recover actor token) cause (own es) → Passed ⊥ (calm_at cause) d more more 0 files owners es
    recovery-stopped cause d files owners es more s honest lawful (inl none) = looks-cut (calm_at cause) d files owners es more s lawful (none-looks es none.1)
    recovery-stopped cause d files owners es more s honest lawful (inr part) = recovery-cut-by cause d files owners es more s honest lawful part

    pub act-cut : (act : Act) (cause : Stop) (d : Disk) (files : Files) (owners : Locks) (es : List Event) (more : List (List Edit))
        → OfCommit (IsBy actor token) act → Stands actor token d files owners → Honest d es → OthersAreLawful actor token d es
        → IsCutSo act cause (own es) → CutOff (calm_at cause) act d files owners es more
    act-cut (Line i) cause d files owners es more by s honest lawful how = looks-cut (calm_at cause) d files owners es more s lawful (cut-looks (Line i) cause (own es) refl how)
    act-cut (Say bytes) cause d files owners es more by s honest lawful how = looks-cut (calm_at cause) d files owners es more s lawful (cut-looks (Say bytes) cause (own es) refl how)
    act-cut (Read name) cause d files owners es more by s honest lawful how = looks-cut (calm_at cause) d files owners es more s lawful (cut-looks (Read name) cause (own es) refl how)
    act-cut (Try name) cause d files owners es more by s honest lawful how = looks-cut (calm_at cause) d files owners es more s lawful (cut-looks (Try name) cause (own es) refl how)
    act-cut (Child program args input) cause d files owners es more by s honest lawful how =
        looks-cut (calm_at cause) d files owners es more s lawful (cut-looks (Child program args input) cause (own es) refl how)
    act-cut (Editor name shell command text) cause d files owners es more by s honest lawful how =
        looks-cut (calm_at cause) d files owners es more s lawful (cut-looks (Editor name shell command text) cause (own es) refl how)
    act-cut (Now tz) cause d files owners es more by s honest lawful how = looks-cut (calm_at cause) d files owners es more s lawful (cut-looks (Now tz) cause (own es) refl how)
    act-cut (Know texts) cause d files owners es more by s honest lawful how = looks-cut (calm_at cause) d files owners es more s lawful (cut-looks (Know texts) cause (own es) refl how)
    act-cut (Changes c) cause d files owners es more by s honest lawful how =
        let P : Commit → Type 0 = λ c. IsCutSo (Changes c) cause (own es) → CutOff (calm_at cause) (Changes c) d files owners es more in
        subst P (sym (same-commit c by)) (λ h. commit-stopped c cause d files owners es more by s honest lawful h) how
    act-cut (Recover b t) cause d files owners es more by s honest lawful how =
        let P : List ℕ → ℕ → Type 0 = λ b t. IsCutSo (Recover b t) cause (own es) in
        recovery-stopped cause d files owners es more s honest lawful (subst (P actor) by.token_is (subst (λ (b : List ℕ). P b t) by.actor_is how))

    -- the edits of what was accepted first stand first
    queue-behind : (first : List Commit) (later : Commits) (more : List (List Edit)) → queue_of first ++ (queue later ++ more) ≡ queue (behind first later) ++ more
    queue-behind first later more =
        let f : Commit → List Edit = λ c. edits_for c.changes c.base in
        sym (append_assoc (queue_of first) (queue later) more)
        ∙ ap (λ (q : List (List Edit)). q ++ more) (sym (map-append f first (later.accepted ++ later.pending)) ∙ ap (map f) (sym (append_assoc first later.accepted later.pending)))

    -- whether a play came to its end
    abbrev pub IsEnd : {R : Type 0} → Result R Stop → Type 0
    IsEnd (Ok r) = Unit {0}
    IsEnd (Err cause) = ⊥

    abbrev pub Plays : {R : Type 0} → Result R Stop → Disk → Commits → List (List Edit) → Files → Locks → List Event → Type 0
    Plays out d commits more files owners es = Passed (IsEnd out) (IsCalm out) d (queue commits ++ more) more (length commits.accepted) files owners es

    plays-then : {R : Type 0} (out : Result R Stop) (d : Disk) (first : List Commit) (later : Commits) (more : List (List Edit)) (files : Files) (owners : Locks) (xs ys : List Event)
        → Passed (Unit {0}) (Unit {0}) d (queue_of first ++ (queue later ++ more)) (queue later ++ more) (length first) files owners xs
        → Plays out (disk d xs) later more (run_files actor token d (queue_of first ++ (queue later ++ more)) files xs) (run_locks actor token d owners xs) ys
        → Plays out d (behind first later) more files owners (xs ++ ys)
    plays-then out d first later more files owners xs ys x y =
        passed-as d (queue_of first ++ (queue later ++ more)) (queue (behind first later) ++ more) more (length first + length later.accepted)
        (length (first ++ later.accepted)) files owners (xs ++ ys)
        (queue-behind first later more) (sym (length-append first later.accepted))
        (passed-then d (queue_of first ++ (queue later ++ more)) (queue later ++ more) more (length first) (length later.accepted) files owners xs ys x y)

    calm-cut : (R : Type 0) (cause : Stop) → IsCalm {R = R} (Err cause) → calm_at cause
    calm-cut R stop.Disk never = never
    calm-cut R stop.Input c = tt
    calm-cut R stop.Output c = tt
    calm-cut R stop.TooMuch c = tt
    calm-cut R stop.Memory c = tt

    pub play-passed : {R : Type 0} (p : Play R) (d : Disk) (es : List Event) (commits : Commits) (out : Result R Stop) (more : List (List Edit))
        (files : Files) (owners : Locks) → EachCommit (IsBy actor token) p → Stands actor token d files owners
        → Honest d es → OthersAreLawful actor token d es → Passes p d es commits out → Plays out d commits more files owners es
    play-passed (Ret r) d es commits out more files owners each s honest lawful (none, is, end) =
        subst (λ (commits : Commits). Plays out d commits more files owners es) (sym is) (looks-passed d more files owners es s (none-looks es none) lawful)
    play-passed (Ask act go) d es commits out more files owners each s honest lawful (inl (answer, front, rest, later, is, did, commits_is, goes)) =
        let honest_so = subst (Honest d) is honest in
        let lawful_so = subst (OthersAreLawful actor token d) is lawful in
        let x = act-answered act answer d files owners front (queue later ++ more) each.0 s (honest-front front rest d honest_so)
        (lawful_front (first_job actor token []) front rest d lawful_so) did in
        let q = queue_of (accepted_by act d front) ++ (queue later ++ more) in
        let now = after-piece actor token d q (queue later ++ more) files owners front (x.leaves tt) in
        let y = play-passed (go answer) (disk d front) rest later out more (run_files actor token d q files front)
        (run_locks actor token d owners front) (each.1 answer) now (honest-back front rest d honest_so) (lawful-back actor token front rest d lawful_so) goes in
        subst (λ (es : List Event). Plays out d commits more files owners es) (sym is)
        (subst (λ (commits : Commits). Plays out d commits more files owners (front ++ rest)) (sym commits_is) (plays-then out d (accepted_by act d front) later more files owners front rest x y))
    play-passed {R = R} (Ask act go) d es commits out more files owners each s honest lawful (inr (cause, is, commits_is, how)) =
        let x = act-cut act cause d files owners es more each.0 s honest lawful how in
        subst (λ (out : Result R Stop). Plays out d commits more files owners es) (sym is)
        (subst (λ (commits : Commits). Plays {R = R} (Err cause) d commits more files owners es) (sym commits_is)
        (record { covers = x.covers; leaves = λ never. absurd never; count = x.count; fresh = λ c. x.fresh (calm-cut R cause c) }))

    -- where a play comes to its end, that is such an end
    pub passes-ends : {R : Type 0} (P : R → Type 0) (p : Play R) (d : Disk) (es : List Event) (commits : Commits) (r : R) → AllEnds P p → Passes p d es commits (Ok r) → P r
    passes-ends P (Ret q) d es commits r ends (none, is, inl same) = subst P (sym (came-same r q same)) ends
    passes-ends P (Ret q) d es commits r ends (none, is, inr other) = absurd (cc other)
    passes-ends P (Ask act go) d es commits r ends (inl (answer, front, rest, later, is, did, commits_is, goes)) = passes-ends P (go answer) (disk d front) rest later r (ends answer) goes
    passes-ends P (Ask act go) d es commits r ends (inr (cause, other, is, how)) = absurd (cc other)

    module _ {X R : Type 0} (round : X → Play (Next X R)) (Keeps : X → Type 0) (each : (x : X) → Keeps x → EachCommit (IsBy actor token) (round x))
        (ends : (x : X) → Keeps x → AllEnds (NextKeeps Keeps) (round x)) where
      pub loop-passed : {x : X} {d : Disk} {es : List Event} {commits : Commits} {out : Result R Stop} (more : List (List Edit)) (files : Files)
          (owners : Locks) → Keeps x → Stands actor token d files owners
          → Honest d es → OthersAreLawful actor token d es → PassesAll round x d es commits out → Plays out d commits more files owners es
      loop-passed {x = x} {d = d} {es = es} {commits = commits} {out = out} more files owners keeps s honest lawful (again {y = y} front rest first later is commits_is goes all) =
          let honest_so = subst (Honest d) is honest in
          let lawful_so = subst (OthersAreLawful actor token d) is lawful in
          let one = play-passed (round x) d front (record { accepted = first; pending = [] }) (Ok (Go y)) (queue later ++ more) files owners
          (each x keeps) s (honest-front front rest d honest_so) (lawful_front (first_job actor token []) front rest d lawful_so) goes in
          let kept : Keeps y = passes-ends (NextKeeps Keeps) (round x) d front (record { accepted = first; pending = [] }) (Go y) (ends x keeps) goes in
          let q = queue_of first ++ (queue later ++ more) in
          let whole : queue (record { accepted = first; pending = [] }) ++ (queue later ++ more) ≡ q = ap (λ (cs : List Commit). queue_of cs ++ (queue later ++ more)) (append-nil first) in
          let z = passed-as d (queue (record { accepted = first; pending = [] }) ++ (queue later ++ more)) q (queue later ++ more) (length first) (length first) files owners front whole refl one in
          let now = after-piece actor token d q (queue later ++ more) files owners front (z.leaves tt) in
          let rest_of = loop-passed more (run_files actor token d q files front) (run_locks actor token d owners front) kept now
          (honest-back front rest d honest_so) (lawful-back actor token front rest d lawful_so) all in
          subst (λ (es : List Event). Plays out d commits more files owners es) (sym is)
          (subst (λ (commits : Commits). Plays out d commits more files owners (front ++ rest)) (sym commits_is) (plays-then out d first later more files owners front rest z rest_of))
      loop-passed {x = x} {d = d} {es = es} {commits = commits} more files owners keeps s honest lawful (last {r = r} goes) =
          let one = play-passed (round x) d es commits (Ok (Last r)) more files owners (each x keeps) s honest lawful goes in
          record { covers = one.covers; leaves = one.leaves; count = one.count; fresh = one.fresh }
      loop-passed {x = x} {d = d} {es = es} {commits = commits} more files owners keeps s honest lawful (cut {cause = cause} goes) =
          let one = play-passed (round x) d es commits (Err cause) more files owners (each x keeps) s honest lawful goes in
          record { covers = one.covers; leaves = one.leaves; count = one.count; fresh = λ c. one.fresh (calm-back cause c) }
        where
          calm-back : (cause : Stop) → IsCalm {R = R} (Err cause) → IsCalm {R = Next X R} (Err cause)
          calm-back stop.Disk never = never
          calm-back stop.Input c = tt
          calm-back stop.Output c = tt
          calm-back stop.TooMuch c = tt
          calm-back stop.Memory c = tt
