-- A promise that was kept so far isn't broken by what others do later: the front of a run, among lawful steps, is covered.
use Rattle.std.proofs.Common.{◌≡◌, ℕ, ℤ, ◌<◌, ◌^◌, ◌==◌, ◌||◌, Bool, true, false, List, [], ◌∷◌, ◌++◌, Option, Some, None, map, length, if◌then◌else◌, refl, ap, sym, subst, inl, inr, ◌∙◌, arith, append_assoc, append-nil}
use Rattle.std.specs.List.{list_any}
use Rattle.std.specs.Option.{option_map}
use Rattle.std.proofs.lemmas.Bool.{eqb-true}
use Rattle.std.proofs.lemmas.List.{map-append}
use Rattle.std.specs.declared.result.Result.{Result}
use Rattle.std.specs.declared.result.Result.TheVariants.{Ok, Err}
use Rattle.host_port.specs.declared.event.Event.{Event}
use Rattle.host_port.specs.declared.event.Event.TheVariants as event
use Rattle.host_port.specs.Disk.{Disk, disk}
use Rattle.host_port.specs.Own.{own, OnlyLooks}
use Rattle.host_port.specs.Ran.{Honest}
use Rattle.folder_change.specs.declared.change.Change.{Change}
use Rattle.commit_machine.specs.Refusals.{first_refusal}
use Rattle.commit_machine.specs.Settled.{Files, Locks}
use Rattle.commit_machine.specs.Jobs.{Before, Refusal, Ending, Refused, Failed, NoMemory, Edit, Job, IsJob}
use Rattle.commit_machine.specs.Jobs as jobs
use Rattle.commit_machine.specs.Machine.{State, Seizing, Ended}
use Rattle.commit_machine.specs.Goes as machine
use Rattle.commit_machine.specs.Edits.{edits_for, cause_of, timed_for, job_for, recovery_for}
use Rattle.commit_machine.specs.Due.{settled_files, settled_locks}
use Rattle.commit_machine.specs.Lawful.{OthersAreLawful}
use Rattle.commit_machine.specs.Laws.{IsRun, IsSettledAs, decisions}
use Rattle.commit_machine.specs.Restraints.{is_failed}
use Rattle.commit_machine.specs.Rows.{first_job, queue_after, IsBracket, run_files, run_locks}
use Rattle.commit_machine.proofs.runs.Ends.{lawful_front, goes_front}
use Rattle.commit_machine.proofs.runs.OneJob.{Stands, after-piece, honest-back, looks-front}
use Rattle.folder_recovery.specs.Recovering.{found}
use Rattle.folder_recovery.proofs.SafeLemmas.{recovery-is-job}
use Rattle.folder_recovery.proofs.UndecidedLemmas.{recovery-undecided}
use Rattle.folder_commit.specs.declared.error.CommitError.{CommitError}
use Rattle.folder_commit.specs.declared.error.CommitError.TheVariants as error
use Rattle.folder_commit.specs.Commits.{IsCommit}
use Rattle.folder_commit.specs.Plans.{AreFiles}
use Rattle.folder_commit.proofs.PlanLemmas.{is-job}
use Rattle.folder_commit.proofs.ToldLemmas.{tells-faults}
use Rattle.session_play.specs.declared.changing.Attempt.{Attempt}
use Rattle.session_play.specs.declared.changing.Attempt.TheVariants.{Made, Misnamed}
use Rattle.session_play.specs.declared.changing.Committed.{Committed}
use Rattle.session_play.specs.declared.stop.Stop.{Stop}
use Rattle.session_play.specs.declared.stop.Stop.TheVariants as stop
use Rattle.session_play.specs.declared.recovering.RecoveryAnswer.{RecoveryAnswer}
use Rattle.session_play.specs.declared.recovering.RecoveryAnswer.TheVariants as recovery
use Rattle.session_play.specs.Acts.{is_neutral, AllEnds}
use Rattle.session_play.specs.Committing.{Commit, answer_as}
use Rattle.session_play.specs.Recovering.{recovery_as, IsRecoveryOf}
use Rattle.session_play.specs.Play.{Act, Answer, Line, Say, Read, Try, Changes, Recover, Child, Editor, Now, Know, Play, Ret, Ask, Did, Partly, Next, Go, Last}
use Rattle.session_play.proofs.CommitLemmas.{answer-fine}
use Rattle.session_play.proofs.NamingLemmas.{named-files}
use Rattle.session_play.proofs.LooksLemmas.{neutral-did, neutral-part}
use Rattle.play_safety.specs.Passes.{decided_in, accepted_by, Commits, behind, at_cut, Passes, PassesAll, again, last, cut}
use Rattle.play_safety.specs.Safe.{IsBy, OfCommit, EachCommit, queue_of, queue, NextKeeps}
use Rattle.play_safety.proofs.TraceLemmas.{Fronts, fronts, decisions-untimed, front-undecided}
use Rattle.play_safety.proofs.CoverLemmas.{Covers, looks-covered, covers-then, bracket-covered, calm-undecided, never-undecided}
use Rattle.play_safety.proofs.SafeLemmas.{honest-front, lawful-back, same-commit, own_commit, act-answered, play-passed, passed-as, passes-ends, IsCutSo}
use Rattle.run_laws.specs.Fronts.{IsSafeUpTo, MayRunUpTo, PromisesStand}
use Rattle.run_laws.proofs.BracketLemmas.{none_looks}

fine_front : (a b : List Event) → list_any is_failed (own (a ++ b)) ≡ false → list_any is_failed (own a) ≡ false
fine_front [] b fine = refl
fine_front (event.Foreign f ∷ a) b fine = fine_front a b fine
fine_front (x ∷ a) b fine = go (is_failed x) (list_any is_failed (own (a ++ b))) (list_any is_failed (own a)) fine (fine_front a b)
  where
    go : (t xs ys : Bool) → (t || xs) ≡ false → (xs ≡ false → ys ≡ false) → (t || ys) ≡ false
    go true xs ys h more = absurd (cc h)
    go false xs ys h more = more h

module _ (actor : List ℕ) (token : ℕ) (fits : token < 2 ^ 64) where
  -- one act, of whose events others leave the first ones as they may
  module _ (d : Disk) (files : Files) (owners : Locks) (a b : List Event) (s : Stands actor token d files owners) (honest : Honest d (a ++ b)) (lawful : OthersAreLawful actor token d a) where
    abbrev Covered : List (List Edit) → Type 0
    Covered queue = Covers actor token d queue files owners a

    settled_so : IsSettledAs actor d files owners
    settled_so = record { same_files = s.settles; same_locks = s.locked; sound = s.sound }

    looking : (queue : List (List Edit)) → OnlyLooks (own (a ++ b)) → Covered queue
    looking queue only = looks-covered actor token d queue files owners settled_so a (looks-front a b only) lawful

    none_done : (queue : List (List Edit)) → own (a ++ b) ≡ [] → Covered queue
    none_done queue none = looking queue (none_looks (a ++ b) none)

    module _ (cs : List Change) (base : List (List ℕ)) where
      abbrev commit : Commit
      commit = own_commit actor token fits cs base

      abbrev edits : Option (List Edit)
      edits = Some (edits_for cs base)

      abbrev refusal : Files → Option Refusal
      refusal = λ files. option_map cause_of (first_refusal cs base files)

      abbrev job : ℤ → Job
      job time = timed_for actor token time cs base

      module _ (time : ℤ) (end : Ending) (j : IsJob (job time)) (goes : machine.Goes (job time) Seizing (own (a ++ b)) (Ended end)) where
        abbrev mid : State
        mid = (goes_front (job time) a b Seizing (Ended end) goes).0

        bracket : IsBracket actor token d edits refusal mid a
        bracket = record { time = Some time; job = j; goes = (goes_front (job time) a b Seizing (Ended end) goes).1; honest = honest-front a b d honest; lawful = lawful }

        taken : (more : List (List Edit)) → Covered (edits_for cs base ∷ more)
        taken more = bracket-covered actor token edits refusal d files owners s a mid bracket (edits_for cs base ∷ more) (inl (more, refl))

        untaken : (queue : List (List Edit)) → decided_in commit d (a ++ b) ≡ 0 → list_any is_failed (own (a ++ b)) ≡ false → Covered queue
        untaken queue none fine =
            let none_so : decisions (job time) d 0 a ≡ 0 = front-undecided (job time) a b d (decisions-untimed (job_for actor token cs base) (Some time) (a ++ b) d 0 ∙ none) in
            bracket-covered actor token edits refusal d files owners s a mid bracket queue (inr (calm-undecided actor token edits refusal d files owners s a mid bracket none_so (fine_front a b fine)))

        if_decided : (more : List (List Edit)) → list_any is_failed (own (a ++ b)) ≡ false → Covered (queue_of (accepted_by (Changes commit) d (a ++ b)) ++ more)
        if_decided more fine = go (decided_in commit d (a ++ b) == 0) refl
          where
            go : (none : Bool) → (decided_in commit d (a ++ b) == 0) ≡ none → Covered (queue_of (if none then [] else commit ∷ []) ++ more)
            go true none = untaken more (eqb-true (decided_in commit d (a ++ b)) 0 none) fine
            go false some = taken more

    answered : (cs : List Change) (base : List (List ℕ)) (answer : Committed) (more : List (List Edit)) → AreFiles actor cs → IsCommit actor token cs base (own (a ++ b)) (answer_as answer)
        → Covered (queue_of (accepted_by (Changes (commit cs base)) d (a ++ b)) ++ more)
    answered [] base answer more are h = none_done _ h.0
    answered (c ∷ cs) base answer more are (inl many) = none_done _ many.1.0
    answered (c ∷ cs) base answer more are (inr (few, (time, h))) =
        let job = timed_for actor token time (c ∷ cs) base in
        let j : IsJob job = is-job actor token time (c ∷ cs) base fits are (omega arith) few in
        if_decided (c ∷ cs) base time h.end j h.goes more (tells-faults job (own (a ++ b)) (answer_as answer) h ∙ answer-fine answer)

    -- what a cut leaves in the queue is the commit's edits, whether it was decided or not
    at_cut_queue : (c : Commit) (more : List (List Edit)) → queue (at_cut (Changes c) d (a ++ b)) ++ more ≡ edits_for c.changes c.base ∷ more
    at_cut_queue c more = go (decided_in c d (a ++ b) == 0)
      where
        go : (none : Bool) → queue_of ((if none then [] else c ∷ []) ++ (if none then c ∷ [] else [])) ++ more ≡ edits_for c.changes c.base ∷ more
        go true = refl
        go false = refl

    cut_off : (cs : List Change) (base : List (List ℕ)) (answer : Result Unit CommitError) (more : List (List Edit)) → AreFiles actor cs → IsCommit actor token cs base (own (a ++ b)) answer
        → Covered (edits_for cs base ∷ more)
    cut_off [] base answer more are h = none_done _ h.0
    cut_off (c ∷ cs) base answer more are (inl many) = none_done _ many.1.0
    cut_off (c ∷ cs) base answer more are (inr (few, (time, h))) =
        let job = timed_for actor token time (c ∷ cs) base in
        let j : IsJob job = is-job actor token time (c ∷ cs) base fits are (omega arith) few in
        taken (c ∷ cs) base time h.end j h.goes more

    -- a recovery decides nothing
    recovers : (queue : List (List Edit)) (end : Ending) → machine.Goes (recovery_for actor token) Seizing (own (a ++ b)) (Ended end) → Covered queue
    recovers queue end goes =
        let j = recovery_for actor token in
        let no_refusal : Files → Option Refusal = λ files. None in
        let f = goes_front j a b Seizing (Ended end) goes in
        let b : IsBracket actor token d None no_refusal f.0 a = record { time = None; job = recovery-is-job actor token fits; goes = f.1; honest = honest-front a b d honest; lawful = lawful } in
        let never : (l : List Event) (now : State) → IsRun j d l now → decisions j d 0 l ≡ 0 = λ l now run. recovery-undecided actor token l now d run.goes in
        bracket-covered actor token None no_refusal d files owners s a f.0 b queue (inr (never-undecided actor token None no_refusal d files owners s a f.0 b never))

    recovery_done : (queue : List (List Edit)) (answer : RecoveryAnswer) → IsRecoveryOf actor token (own (a ++ b)) (recovery_as answer) → Covered queue
    recovery_done queue (recovery.Done f) h = recovers queue (jobs.Recovered (found f)) h.1
    recovery_done queue (recovery.Busy name) h = recovers queue (Refused (jobs.Busy name)) h.1.1
    recovery_done queue recovery.NotARecord h = recovers queue (Refused jobs.NotARecord) h.1
    recovery_done queue (recovery.TooLarge name n) h = recovers queue (Refused (jobs.TooLarge name n)) h.1.1

    recovery_part : (queue : List (List Edit)) (cause : Stop) → Partly (Recover actor token) cause (own (a ++ b)) → Covered queue
    recovery_part queue stop.Disk h = recovers queue (Failed Before) h.1
    recovery_part queue stop.Memory (fit, inl h) = recovers queue NoMemory h
    recovery_part queue stop.Memory (fit, inr h) = recovers queue (Refused jobs.NotARecord) h
    recovery_part queue stop.Input never = absurd never
    recovery_part queue stop.Output never = absurd never
    recovery_part queue stop.TooMuch never = absurd never

    attempted : (cs : List Change) (base : List (List ℕ)) (answer : Attempt) (more : List (List Edit)) → Did (Changes (commit cs base)) answer (own (a ++ b))
        → Covered (queue_of (accepted_by (Changes (commit cs base)) d (a ++ b)) ++ more)
    attempted cs base (Made answer) more (well, h) = answered cs base answer more (named-files actor cs well) h
    attempted cs base (Misnamed name fault) more (is, none) = none_done _ none

    commit_part : (cs : List Change) (base : List (List ℕ)) (cause : Stop) (more : List (List Edit)) → Partly (Changes (commit cs base)) cause (own (a ++ b)) → Covered (edits_for cs base ∷ more)
    commit_part cs base stop.Disk more (well, (passed, h)) = cut_off cs base (Err (error.Disk passed)) more (named-files actor cs well) h
    commit_part cs base stop.Memory more (well, h) = cut_off cs base (Err error.Memory) more (named-files actor cs well) h
    commit_part cs base stop.Input more never = absurd never
    commit_part cs base stop.Output more never = absurd never
    commit_part cs base stop.TooMuch more never = absurd never

    commit_stopped : (cs : List Change) (base : List (List ℕ)) (cause : Stop) (more : List (List Edit)) → IsCutSo actor token fits (Changes (commit cs base)) cause (own (a ++ b))
        → Covered (queue (at_cut (Changes (commit cs base)) d (a ++ b)) ++ more)
    commit_stopped cs base cause more (inl none) = none_done _ none.1
    commit_stopped cs base cause more (inr part) = subst Covered (sym (at_cut_queue (commit cs base) more)) (commit_part cs base cause more part)

    -- what an act that was answered has covered up to there
    act_front : (act : Act) (answer : Answer act) (more : List (List Edit)) → OfCommit (IsBy actor token) act → Did act answer (own (a ++ b)) → Covered (queue_of (accepted_by act d (a ++ b)) ++ more)
    act_front (Changes c) answer more by did =
        let P : Commit → Type 0 = λ c. Did (Changes c) answer (own (a ++ b)) → Covered (queue_of (accepted_by (Changes c) d (a ++ b)) ++ more) in
        subst P (sym (same-commit actor token fits c by)) (λ h. attempted c.changes c.base answer more h) did
    act_front (Recover n t) answer more by did =
        recovery_done more answer (subst (λ (t : ℕ). IsRecoveryOf actor t (own (a ++ b)) (recovery_as answer)) by.token_is
        (subst (λ (n : List ℕ). IsRecoveryOf n t (own (a ++ b)) (recovery_as answer)) by.actor_is did))
    act_front (Line i) answer more by did = looking more (neutral-did (Line i) answer (own (a ++ b)) refl did)
    act_front (Say bytes) answer more by did = looking more (neutral-did (Say bytes) answer (own (a ++ b)) refl did)
    act_front (Read name) answer more by did = looking more (neutral-did (Read name) answer (own (a ++ b)) refl did)
    act_front (Try name) answer more by did = looking more (neutral-did (Try name) answer (own (a ++ b)) refl did)
    act_front (Child program args input) answer more by did = looking more (neutral-did (Child program args input) answer (own (a ++ b)) refl did)
    act_front (Editor name shell command text) answer more by did = looking more (neutral-did (Editor name shell command text) answer (own (a ++ b)) refl did)
    act_front (Now tz) answer more by did = looking more (neutral-did (Now tz) answer (own (a ++ b)) refl did)
    act_front (Know q) answer more by did = looking more (neutral-did (Know q) answer (own (a ++ b)) refl did)

    neutral_cut : (act : Act) (cause : Stop) (queue : List (List Edit)) → is_neutral act ≡ true → IsCutSo actor token fits act cause (own (a ++ b)) → Covered queue
    neutral_cut act cause queue neutral (inl none) = none_done queue none.1
    neutral_cut act cause queue neutral (inr part) = looking queue (neutral-part act cause (own (a ++ b)) neutral part)

    -- and what one that was cut off has
    act_cut : (act : Act) (cause : Stop) (more : List (List Edit)) → OfCommit (IsBy actor token) act
        → IsCutSo actor token fits act cause (own (a ++ b)) → Covered (queue (at_cut act d (a ++ b)) ++ more)
    act_cut (Changes c) cause more by how =
        let P : Commit → Type 0 = λ c. IsCutSo actor token fits (Changes c) cause (own (a ++ b)) → Covered (queue (at_cut (Changes c) d (a ++ b)) ++ more) in
        subst P (sym (same-commit actor token fits c by)) (λ h. commit_stopped c.changes c.base cause more h) how
    act_cut (Recover n t) cause more by how =
        recovery_cut (subst (λ (t : ℕ). IsCutSo actor token fits (Recover actor t) cause (own (a ++ b))) by.token_is
        (subst (λ (n : List ℕ). IsCutSo actor token fits (Recover n t) cause (own (a ++ b))) by.actor_is how))
      where
        recovery_cut : IsCutSo actor token fits (Recover actor token) cause (own (a ++ b)) → Covered more
        recovery_cut (inl none) = none_done more none.1
        recovery_cut (inr part) = recovery_part more cause part
    act_cut (Line i) cause more by how = neutral_cut (Line i) cause more refl how
    act_cut (Say bytes) cause more by how = neutral_cut (Say bytes) cause more refl how
    act_cut (Read name) cause more by how = neutral_cut (Read name) cause more refl how
    act_cut (Try name) cause more by how = neutral_cut (Try name) cause more refl how
    act_cut (Child program args input) cause more by how = neutral_cut (Child program args input) cause more refl how
    act_cut (Editor name shell command text) cause more by how = neutral_cut (Editor name shell command text) cause more refl how
    act_cut (Now tz) cause more by how = neutral_cut (Now tz) cause more refl how
    act_cut (Know q) cause more by how = neutral_cut (Know q) cause more refl how

  -- ---- plays
  queue_behind : (first : List Commit) (later : Commits) (more : List (List Edit)) → queue_of first ++ (queue later ++ more) ≡ queue (behind first later) ++ more
  queue_behind first later more =
      let f : Commit → List Edit = λ c. edits_for c.changes c.base in
      sym (append_assoc (queue_of first) (queue later) more)
      ∙ ap (λ (q : List (List Edit)). q ++ more) (sym (map-append f first (later.accepted ++ later.pending)) ∙ ap (map f) (sym (append_assoc first later.accepted later.pending)))

  pub play_front : {R : Type 0} (p : Play R) (d : Disk) (es a b : List Event) (commits : Commits) (out : Result R Stop) (more : List (List Edit)) (files : Files) (owners : Locks) → es ≡ a ++ b
      → EachCommit (IsBy actor token) p → Stands actor token d files owners → Honest d es → OthersAreLawful actor token d a → Passes p d es commits out
      → Covers actor token d (queue commits ++ more) files owners a
  play_front (Ret r) d es a b commits out more files owners whole each s honest lawful (none, is, end) =
      none_done d files owners a b s (subst (Honest d) whole honest) lawful (queue commits ++ more) (ap own (sym whole) ∙ none)
  play_front (Ask act go) d es a b commits out more files owners whole each s honest lawful (inr (cause, is, commits_is, how)) =
      let how_so = subst (λ (l : List Event). IsCutSo actor token fits act cause (own l)) whole how in
      subst (λ (commits : Commits). Covers actor token d (queue commits ++ more) files owners a) (sym (commits_is ∙ ap (at_cut act d) whole))
      (act_cut d files owners a b s (subst (Honest d) whole honest) lawful act cause more each.0 how_so)
  play_front (Ask act go) d es a b commits out more files owners whole each s honest lawful (inl (answer, front, rest, later, is, did, commits_is, goes)) =
      subst (λ (commits : Commits). Covers actor token d (queue commits ++ more) files owners a) (sym commits_is)
      (subst (λ (q : List (List Edit)). Covers actor token d q files owners a) (queue_behind (accepted_by act d front) later more)
      (pick (λ c files owners back stands honest lawful. play_front (go answer) (disk d front) rest c b later out more files owners back (each.1 answer) stands honest lawful goes)
      (fronts front rest a b (sym is ∙ whole))))
    where
      left : List (List Edit)
      left = queue later ++ more

      Covered_so : List (List Edit) → List Event → Type 0
      Covered_so q l = Covers actor token d q files owners l

      honest_so : Honest d (front ++ rest)
      honest_so = subst (Honest d) is honest

      Later : Type 0
      Later = (c : List Event) (files : Files) (owners : Locks) → rest ≡ c ++ b → Stands actor token (disk d front) files owners → Honest (disk d front) rest
          → OthersAreLawful actor token (disk d front) c → Covers actor token (disk d front) left files owners c

      pick : Later → Fronts front rest a b → Covered_so (queue_of (accepted_by act d front) ++ left) a
      pick more_of (inl (c, same)) =
          let honest_here = subst (Honest d) same (honest-front front rest d honest_so) in
          subst (λ (l : List Event). Covered_so (queue_of (accepted_by act d l) ++ left) a) (sym same)
          (act_front d files owners a c s honest_here lawful act answer left each.0 (subst (λ (l : List Event). Did act answer (own l)) same did))
      pick more_of (inr (c, same, back)) =
          let q = queue_of (accepted_by act d front) ++ left in
          let lawful_both = subst (OthersAreLawful actor token d) same lawful in
          let x = act-answered actor token fits act answer d files owners front left each.0 s (honest-front front rest d honest_so)
          (lawful_front (first_job actor token []) front c d lawful_both) did in
          let leaves = x.leaves tt in
          let now = after-piece actor token d q left files owners front leaves in
          let ahead = more_of c (run_files actor token d q files front) (run_locks actor token d owners front) back now
          (honest-back front rest d honest_so) (lawful-back actor token front c d lawful_both) in
          subst (Covered_so q) (sym same) (covers-then actor token d q left files owners front c leaves.rest x.covers ahead)

  -- ---- rounds
  module _ {X R : Type 0} (round : X → Play (Next X R)) (Keeps : X → Type 0) (each : (x : X) → Keeps x → EachCommit (IsBy actor token) (round x))
      (ends : (x : X) → Keeps x → AllEnds (NextKeeps Keeps) (round x)) where
    pub loop_front : {x : X} {d : Disk} {es : List Event} {commits : Commits} {out : Result R Stop} (a b : List Event) (more : List (List Edit))
        (files : Files) (owners : Locks) → es ≡ a ++ b → Keeps x
        → Stands actor token d files owners → Honest d es → OthersAreLawful actor token d a → PassesAll round x d es commits out → Covers actor token d (queue commits ++ more) files owners a
    loop_front {x = x} {d = d} {es = es} {commits = commits} a b more files owners whole keeps s honest lawful (last {r = r} goes) =
        play_front (round x) d es a b commits (Ok (Last r)) more files owners whole (each x keeps) s honest lawful goes
    loop_front {x = x} {d = d} {es = es} {commits = commits} a b more files owners whole keeps s honest lawful (cut {cause = cause} goes) =
        play_front (round x) d es a b commits (Err cause) more files owners whole (each x keeps) s honest lawful goes
    loop_front {x = x} {d = d} {es = es} {commits = commits} a b more files owners whole keeps s honest lawful (again {y = y} front rest first later is commits_is goes all) =
        subst (λ (commits : Commits). Covers actor token d (queue commits ++ more) files owners a) (sym commits_is)
        (subst (Covered_so a) (queue_behind first later more)
        (pick (λ c files owners back kept stands honest lawful. loop_front c b more files owners back kept stands honest lawful all) (fronts front rest a b (sym is ∙ whole))))
      where
        left : List (List Edit)
        left = queue later ++ more

        alone : Commits
        alone = record { accepted = first; pending = [] }

        Covered_so : List Event → List (List Edit) → Type 0
        Covered_so l q = Covers actor token d q files owners l

        honest_so : Honest d (front ++ rest)
        honest_so = subst (Honest d) is honest

        same_queue : queue alone ++ left ≡ queue_of first ++ left
        same_queue = ap (λ (cs : List Commit). queue_of cs ++ left) (append-nil first)

        Later : Type 0
        Later = (c : List Event) (files : Files) (owners : Locks) → rest ≡ c ++ b → Keeps y → Stands actor token (disk d front) files owners → Honest (disk d front) rest
            → OthersAreLawful actor token (disk d front) c → Covers actor token (disk d front) left files owners c

        pick : Later → Fronts front rest a b → Covered_so a (queue_of first ++ left)
        pick more_of (inl (c, same)) =
            subst (Covered_so a) same_queue (play_front (round x) d front a c alone (Ok (Go y)) left files owners same (each x keeps) s (honest-front front rest d honest_so) lawful goes)
        pick more_of (inr (c, same, back)) =
            let q = queue_of first ++ left in
            let lawful_both = subst (OthersAreLawful actor token d) same lawful in
            let one = play-passed actor token fits (round x) d front alone (Ok (Go y)) left files owners (each x keeps) s
            (honest-front front rest d honest_so) (lawful_front (first_job actor token []) front c d lawful_both) goes in
            let kept : Keeps y = passes-ends actor token fits (NextKeeps Keeps) (round x) d front alone (Go y) (ends x keeps) goes in
            let z = passed-as actor token d (queue alone ++ left) q left (length first) (length first) files owners front same_queue refl one in
            let leaves = z.leaves tt in
            let now = after-piece actor token d q left files owners front leaves in
            let ahead = more_of c (run_files actor token d q files front) (run_locks actor token d owners front) back kept now
            (honest-back front rest d honest_so) (lawful-back actor token front c d lawful_both) in
            subst (λ (l : List Event). Covered_so l q) (sym same) (covers-then actor token d q left files owners front c leaves.rest z.covers ahead)

    -- and of rounds that events follow which only look
    pub looked_front : {x : X} {d : Disk} {commits : Commits} {out : Result R Stop} (xs ys a b : List Event) (files : Files) (owners : Locks) → xs ++ ys ≡ a ++ b → Keeps x
        → Stands actor token d files owners → Honest d (a ++ b) → OthersAreLawful actor token d a → PassesAll round x d xs commits out → OnlyLooks (own ys)
        → Covers actor token d (queue commits ++ []) files owners a
    looked_front {d = d} {commits = commits} xs ys a b files owners whole keeps s honest lawful all looks = pick (fronts xs ys a b whole)
      where
        q : List (List Edit)
        q = queue commits ++ []

        honest_so : Honest d xs
        honest_so = honest-front xs ys d (subst (Honest d) (sym whole) honest)

        pick : Fronts xs ys a b → Covers actor token d q files owners a
        pick (inl (c, same)) = loop_front a c [] files owners same keeps s honest_so lawful all
        pick (inr (c, same, back)) =
            let lawful_both = subst (OthersAreLawful actor token d) same lawful in
            let left = queue_after actor token d q xs in
            let x = loop_front xs [] [] files owners (sym (append-nil xs)) keeps s honest_so (lawful_front (first_job actor token []) xs c d lawful_both) all in
            let now = x.moments xs [] (sym (append-nil xs)) in
            let only = looks-front c b (subst (λ (l : List Event). OnlyLooks (own l)) back looks) in
            let y = looks-covered actor token (disk d xs) left (run_files actor token d q files xs) (run_locks actor token d owners xs) now c only (lawful-back actor token xs c d lawful_both) in
            subst (λ (l : List Event). Covers actor token d q files owners l) (sym same) (covers-then actor token d q left files owners xs c refl x y)

-- what is due is what is promised
pub up_to : (actor : List ℕ) (token : ℕ) (d : Disk) (commits : Commits) (a : List Event)
    → Covers actor token d (queue commits ++ []) (settled_files actor d) (settled_locks actor d) a → IsSafeUpTo actor token d commits a
up_to actor token d commits a covers =
    let c = subst (λ (q : List (List Edit)). Covers actor token d q (settled_files actor d) (settled_locks actor d) a) (append-nil (queue commits)) covers in
    record { moments = c.moments; stops = c.stops }

pub stands_at : (actor : List ℕ) (token : ℕ) (d : Disk) (a b : List Event) → MayRunUpTo actor token d a b → Stands actor token d (settled_files actor d) (settled_locks actor d)
stands_at actor token d a b may = record { settles = λ n. refl; locked = λ n. refl; sound = may.sound; fresh = may.fresh }

pub promises_stand : PromisesStand
promises_stand p actor token d front rest commits out each may passes =
    up_to actor token d commits front
    (play_front actor token may.fits p d (front ++ rest) front rest commits out [] (settled_files actor d) (settled_locks actor d) refl each
    (stands_at actor token d front rest may) may.honest may.lawful passes)
