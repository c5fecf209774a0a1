-- A commit is decided only where its changes can be made.
use Rattle.std.proofs.Common.{◌≡◌, ℕ, ℤ, ◌<◌, ◌^◌, ◌==◌, Bool, true, false, List, [], ◌∷◌, ◌++◌, Option, Some, None, Result, Ok, Err, MatchResult, length, append-nil, if◌then◌else◌, refl, ap, sym, subst, inl, inr, ◌∙◌, arith, append_assoc, length-append}
use Rattle.std.specs.Option.{option_map}
use Rattle.std.proofs.lemmas.Bool.{false≢true}
use Rattle.host_port.specs.declared.event.Event.{Event}
use Rattle.host_port.specs.Disk.{Disk, disk}
use Rattle.host_port.specs.Disk as host
use Rattle.host_port.specs.Own.{own, OnlyLooks}
use Rattle.host_port.specs.Ran.{Honest}
use Rattle.host_port.proofs.RanLemmas.{disk-append}
use Rattle.folder_change.specs.declared.change.Change.{Change}
use Rattle.folder_change.specs.declared.change.Change.TheVariants.{Rewrite}
use Rattle.folder_change.specs.Changes.{name_of}
use Rattle.folder_change.specs.Outcomes.{outcome_of, rewrite_of}
use Rattle.folder_change.specs.ListLaws.{list_of_file}
use Rattle.folder_change.specs.Apply.{outcome_on, after, apply}
use Rattle.folder_change.proofs.ApplyLemmas.{apply-other}
use Rattle.folder_change.proofs.LawLemmas.{rewrite-by_base}
use Rattle.commit_machine.specs.Refusals.{ChangeRefusal, first_refusal, refusal_of, or_else}
use Rattle.commit_machine.specs.Settled.{Files, Locks}
use Rattle.commit_machine.specs.Jobs.{Ending, Job, IsJob, all_of}
use Rattle.commit_machine.specs.Machine.{Seizing, Ended}
use Rattle.commit_machine.specs.Goes.{Goes}
use Rattle.commit_machine.specs.Edits.{cause_of, timed_for}
use Rattle.commit_machine.specs.Lawful.{OthersAreLawful}
use Rattle.commit_machine.specs.Due.{settled_files, settled_locks, is_decision}
use Rattle.commit_machine.specs.Laws.{IsRun, decisions}
use Rattle.commit_machine.specs.Rows.{first_job, run_files, run_locks}
use Rattle.commit_machine.proofs.runs.Moments.{crash_safe}
use Rattle.commit_machine.proofs.runs.Ends.{front_is_run, lawful_front}
use Rattle.commit_machine.proofs.runs.OneJob.{Stands, decides-same, never-fewer, counted-yes, after-piece, honest-back}
use Rattle.commit_machine.proofs.told.Refusals.{no_refused_is_decided}
use Rattle.commit_driver.proofs.JudgeLemmas.{are-named}
use Rattle.folder_commit.specs.declared.error.CommitError.{CommitError}
use Rattle.folder_commit.specs.declared.error.CommitError.TheVariants as error
use Rattle.folder_commit.specs.Commits.{IsCommit}
use Rattle.folder_commit.specs.Plans.{AreFiles}
use Rattle.folder_commit.proofs.PlanLemmas.{is-job, all-of-job}
use Rattle.folder_commit.proofs.TellLemmas.{alike}
use Rattle.session_play.specs.declared.stop.Stop.{Stop}
use Rattle.session_play.specs.declared.stop.Stop.TheVariants as stop
use Rattle.session_play.specs.Acts.{AllEnds}
use Rattle.session_play.specs.declared.changing.Attempt.TheVariants.{Made, Misnamed}
use Rattle.session_play.specs.Committing.{Commit, answer_as, first_target_fault}
use Rattle.session_play.proofs.NamingLemmas.{named-files}
use Rattle.session_play.specs.Play.{Act, Answer, Changes, Play, Ret, Ask, Did, Partly, Next, Go, Last, Line, Say, Read, Try, Recover, Child, Editor, Now, Know}
use Rattle.play_safety.specs.Passes.{decided_in, accepted_by, pending_by, Commits, Passes, PassesAll, again, last, cut}
use Rattle.play_safety.specs.Safe.{IsBy, OfCommit, EachCommit, NextKeeps, MayRun, queue_of, queue}
use Rattle.play_safety.specs.Appended.{Decides, IsOnlyOne}
use Rattle.play_safety.specs.Fitting.{CommitsFit, RewritesFit, DecidedFit}
use Rattle.play_safety.proofs.TraceLemmas.{stands-in, looks-undecided, decisions-then, none-decides}
use Rattle.play_safety.proofs.SafeLemmas.{IsCutSo, own_commit, act-answered, act-cut, same-commit, play-passed, passes-ends, honest-front, lawful-back}

-- ---- changes that can be made
or-first : (a b : Option ChangeRefusal) → or_else a b ≡ None → a ≡ None
or-first None b h = refl
or-first (Some r) b h = absurd (cc h)

or-later : (a b : Option ChangeRefusal) → or_else a b ≡ None → b ≡ None
or-later None b h = h
or-later (Some r) b h = absurd (cc h)

no-cause : (o : Option ChangeRefusal) → option_map cause_of o ≡ None → o ≡ None
no-cause None h = refl
no-cause (Some why) h = absurd (cc h)

can-one : (front : List Change) (change : Change) (rest : List Change) (base : List (List ℕ)) (files : Files) → first_refusal (front ++ change ∷ rest) base files ≡ None
    → refusal_of (name_of change) (outcome_on (apply front base files) change base) ≡ None
unfolding first_refusal apply
can-one [] change rest base files h = or-first (refusal_of (name_of change) (outcome_on files change base)) (first_refusal rest base (after files change base)) h
can-one (x ∷ front) change rest base files h =
    can-one front change rest base (after files x base) (or-later (refusal_of (name_of x) (outcome_on files x base)) (first_refusal (front ++ change ∷ rest) base (after files x base)) h)

fit-now : (name : List ℕ) (P : Option (List ℕ) → Type 0) (Q : ℕ → Type 0) (o : Result (Option (List ℕ)) ℕ) → refusal_of name o ≡ None → MatchResult o P Q → (file : Option (List ℕ)) × P file
fit-now name P Q (Ok file) h m = (file, m)
fit-now name P Q (Err at) h m = absurd (cc h)

module _ (files : Files) (n : List ℕ) (list base : List (List ℕ)) (keep : Bool) where
  abbrev Begins : Type 0
  Begins = (appended : List (List ℕ)) × (list_of_file (files n) ≡ Some (base ++ appended))

  no-list : list_of_file (files n) ≡ None → refusal_of n (outcome_of (files n) (Rewrite n list keep) base) ≡ None → ⊥
  unfolding outcome_of rewrite_of
  no-list none h =
      let here = ap (λ (o : Option (List (List ℕ))). refusal_of n (rewrite_of o list keep base)) none in
      let other = sym here ∙ h in
      absurd (cc other)

  begins : (now : Option (List (List ℕ))) → list_of_file (files n) ≡ now → refusal_of n (outcome_of (files n) (Rewrite n list keep) base) ≡ None → Begins
  begins None is h = absurd (no-list is h)
  begins (Some now) is h =
      let f = fit-now n _ _ (outcome_of (files n) (Rewrite n list keep) base) h (rewrite-by_base (files n) n now list base keep is) in
      let p = f.1 in
      (p.0, is ∙ ap (λ (l : List (List ℕ)). Some l) p.1)

  only-begins : (changes : List Change) → IsOnlyOne (Rewrite n list keep) changes → first_refusal changes base files ≡ None → Begins
  only-begins changes one none =
      let this = Rewrite n list keep in
      let can = can-one one.front this one.rest base files (ap (λ (cs : List Change). first_refusal cs base files) (sym one.is) ∙ none) in
      let before : apply one.front base files n ≡ files n = apply-other one.front base files n one.others.0 in
      begins (list_of_file (files n)) refl (subst (λ (f : Option (List ℕ)). refusal_of n (outcome_of f this base) ≡ None) before can)

-- what stands at a place of a list
same-place : (xs ys : List Commit) (x y : Commit) (p q : List Commit) → xs ++ x ∷ p ≡ ys ++ y ∷ q → length xs ≡ length ys → x ≡ y
same-place [] [] x y p q is n = cc
same-place [] (z ∷ ys) x y p q is n = absurd (omega (arith, n))
same-place (z ∷ xs) [] x y p q is n = absurd (omega (arith, n))
same-place (z ∷ xs) (w ∷ ys) x y p q is n =
    let tail : xs ++ x ∷ p ≡ ys ++ y ∷ q = cc in
    same-place xs ys x y p q tail (omega (arith, n))

module _ (actor : List ℕ) (token : ℕ) (fits : token < 2 ^ 64) where
  abbrev any : Job
  any = first_job actor token []

  none-here : (es a b : List Event) (e : Event) (d : Disk) → decisions any d 0 es ≡ 0 → es ≡ a ++ e ∷ b → is_decision any e (disk d a) ≡ true → ⊥
  none-here es a b e d none at y =
      let k = none-decides any a e b d (subst (λ (l : List Event). decisions any d 0 l ≡ 0) at none) in
      false≢true (sym k.1 ∙ y)

  no-own : (es a b : List Event) (e : Event) (d : Disk) → own es ≡ [] → es ≡ a ++ e ∷ b → is_decision any e (disk d a) ≡ true → ⊥
  no-own es a b e d none at y = none-here es a b e d (looks-undecided any es d 0 (subst OnlyLooks (sym none) tt)) at y

  -- the decision of a job
  job-fits : (time : ℤ) (c : Change) (cs : List Change) (base : List (List ℕ)) (d : Disk) (es : List Event) (end : Ending) → IsJob (timed_for actor token time (c ∷ cs) base) → MayRun actor token d es
      → Goes (timed_for actor token time (c ∷ cs) base) Seizing (own es) (Ended end) → (a b : List Event) (e : Event) → es ≡ a ++ e ∷ b → is_decision any e (disk d a) ≡ true
      → first_refusal (c ∷ cs) base (settled_files actor (disk d a)) ≡ None
  job-fits time c cs base d es end job may goes a b e at y =
      let j = timed_for actor token time (c ∷ cs) base in
      let run : IsRun j d es (Ended end) = record { job = job; fresh = may.fresh; sound = may.sound; goes = goes; honest = may.honest; lawful = may.lawful } in
      let whole = subst (λ (l : List Event). IsRun j d l (Ended end)) at run in
      let (files, same, none) = no_refused_is_decided j d a e b (Ended end) whole (sym (decides-same j [] e (disk d a)) ∙ y) in
      let mid = front_is_run j d a (e ∷ b) (Ended end) whole in
      let due = crash_safe j d a mid.0 mid.1 in
      let named = are-named (all_of j) (c ∷ cs) (all-of-job actor token (c ∷ cs) base) in
      alike (all_of j) (c ∷ cs) base (settled_files actor (disk d a)) files named (λ n m. due.same_files n ∙ sym (same n m)) ∙ no-cause (first_refusal (c ∷ cs) base files) none

  commit-fits : (cs : List Change) (base : List (List ℕ)) (d : Disk) (es : List Event) (answer : Result Unit CommitError) → AreFiles actor cs → MayRun actor token d es
      → IsCommit actor token cs base (own es) answer → (a b : List Event) (e : Event) → es ≡ a ++ e ∷ b → is_decision any e (disk d a) ≡ true
      → first_refusal cs base (settled_files actor (disk d a)) ≡ None
  commit-fits [] base d es answer are may h a b e at y = absurd (no-own es a b e d h.0 at y)
  commit-fits (c ∷ cs) base d es answer are may (inl many) a b e at y = absurd (no-own es a b e d many.1.0 at y)
  commit-fits (c ∷ cs) base d es answer are may (inr (few_names, (time, h))) a b e at y =
      job-fits time c cs base d es h.end (is-job actor token time (c ∷ cs) base fits are (omega arith) few_names) may h.goes a b e at y

  -- where the events of a commit hold a decision, it is accepted, and this is its decision
  once : (c : Commit) (d : Disk) (es : List Event) → decisions any d 0 es ≡ length (accepted_by (Changes c) d es) → (a b : List Event) (e : Event)
      → es ≡ a ++ e ∷ b → is_decision any e (disk d a) ≡ true
      → (accepted_by (Changes c) d es ≡ c ∷ []) × (decisions any d 0 a ≡ 0)
  once c d es count a b e at y = go (decided_in c d es == 0) refl
    where
      taken : Bool → List Commit
      taken none = if none then [] else c ∷ []

      go : (none : Bool) → (decided_in c d es == 0) ≡ none → (accepted_by (Changes c) d es ≡ c ∷ []) × (decisions any d 0 a ≡ 0)
      go true is = absurd (none-here es a b e d (count ∙ ap (λ (x : Bool). length (taken x)) is) at y)
      go false is =
          let one : decisions any d 0 es ≡ 1 = count ∙ ap (λ (x : Bool). length (taken x)) is in
          let whole = ap (λ (l : List Event). decisions any d 0 l) at in
          let parts = decisions-then any a (e ∷ b) d in
          let here = counted-yes any e b (disk d a) 0 y in
          let more = never-fewer any b (host.after (disk d a) e) 1 in
          (ap taken is, omega (arith, one, whole, parts, here, more))

  -- an act whose events hold a decision is a commit whose changes can be made there
  abbrev Fits : Act → Disk → List Event → Type 0
  Fits act d es = (a b : List Event) (e : Event) → es ≡ a ++ e ∷ b → is_decision any e (disk d a) ≡ true
      → (c : Commit) × (accepted_by act d es ≡ c ∷ []) × (decisions any d 0 a ≡ 0) × (first_refusal c.changes c.base (settled_files actor (disk d a)) ≡ None)

  may-run : (d : Disk) (files : Files) (owners : Locks) (es : List Event) → Stands actor token d files owners → Honest d es → OthersAreLawful actor token d es → MayRun actor token d es
  may-run d files owners es s honest lawful = record { fits = fits; fresh = s.fresh; sound = s.sound; honest = honest; lawful = lawful }

  -- what an answered or a cut commit's events carry out
  changes-fit : (c : Commit) (d : Disk) (es : List Event) (answer : Result Unit CommitError) → first_target_fault actor c.changes ≡ None
      → MayRun actor token d es → decisions any d 0 es ≡ length (accepted_by (Changes c) d es)
      → IsCommit actor token c.changes c.base (own es) answer → Fits (Changes c) d es
  changes-fit c d es answer well may count h a b e at y =
      let o = once c d es count a b e at y in
      (c, o.0, o.1, commit-fits c.changes c.base d es answer (named-files actor c.changes well) may h a b e at y)

  undecided-fit : (act : Act) (d : Disk) (es : List Event) → decisions any d 0 es ≡ 0 → Fits act d es
  undecided-fit act d es none a b e at y = absurd (none-here es a b e d none at y)

  act-fits : (act : Act) (answer : Answer act) (d : Disk) (files : Files) (owners : Locks) (es : List Event) → OfCommit (IsBy actor token) act
      → Stands actor token d files owners → Honest d es → OthersAreLawful actor token d es
      → Did act answer (own es) → Fits act d es
  act-fits (Changes c) (Made answer) d files owners es by s honest lawful did =
      let x = act-answered actor token fits (Changes c) (Made answer) d files owners es [] by s honest lawful did in
      let P : Commit → Type 0 = λ c. Did (Changes c) (Made answer) (own es) in
      let mine = subst P (same-commit actor token fits c by) did in
      changes-fit c d es (answer_as answer) mine.0 (may-run d files owners es s honest lawful) x.count mine.1
  act-fits (Changes c) (Misnamed name fault) d files owners es by s honest lawful (is, none) = λ a b e at y. absurd (no-own es a b e d none at y)
  act-fits (Line i) answer d files owners es by s honest lawful did = undecided-fit (Line i) d es ((act-answered actor token fits (Line i) answer d files owners es [] by s honest lawful did).count)
  act-fits (Say bytes) answer d files owners es by s honest lawful did =
      undecided-fit (Say bytes) d es ((act-answered actor token fits (Say bytes) answer d files owners es [] by s honest lawful did).count)
  act-fits (Read name) answer d files owners es by s honest lawful did =
      undecided-fit (Read name) d es ((act-answered actor token fits (Read name) answer d files owners es [] by s honest lawful did).count)
  act-fits (Try name) answer d files owners es by s honest lawful did =
      undecided-fit (Try name) d es ((act-answered actor token fits (Try name) answer d files owners es [] by s honest lawful did).count)
  act-fits (Child program args input) answer d files owners es by s honest lawful did =
      undecided-fit (Child program args input) d es ((act-answered actor token fits (Child program args input) answer d files owners es [] by s honest lawful did).count)
  act-fits (Editor name shell command text) answer d files owners es by s honest lawful did =
      undecided-fit (Editor name shell command text) d es ((act-answered actor token fits (Editor name shell command text) answer d files owners es [] by s honest lawful did).count)
  act-fits (Now tz) answer d files owners es by s honest lawful did = undecided-fit (Now tz) d es ((act-answered actor token fits (Now tz) answer d files owners es [] by s honest lawful did).count)
  act-fits (Know texts) answer d files owners es by s honest lawful did =
      undecided-fit (Know texts) d es ((act-answered actor token fits (Know texts) answer d files owners es [] by s honest lawful did).count)
  act-fits (Recover o t) answer d files owners es by s honest lawful did =
      undecided-fit (Recover o t) d es ((act-answered actor token fits (Recover o t) answer d files owners es [] by s honest lawful did).count)

  partly-fits : (c : Commit) (cause : Stop) (d : Disk) (es : List Event) → MayRun actor token d es → decisions any d 0 es ≡ length (accepted_by (Changes c) d es)
      → Partly (Changes (own_commit actor token fits c.changes c.base)) cause (own es) → Fits (Changes c) d es
  partly-fits c stop.Disk d es may count (well, (passed, h)) = changes-fit c d es (Err (error.Disk passed)) well may count h
  partly-fits c stop.Memory d es may count (well, h) = changes-fit c d es (Err error.Memory) well may count h
  partly-fits c stop.Input d es may count never = absurd never
  partly-fits c stop.Output d es may count never = absurd never
  partly-fits c stop.TooMuch d es may count never = absurd never

  stopped-fits : (c : Commit) (cause : Stop) (d : Disk) (es : List Event) → IsBy actor token c → MayRun actor token d es → decisions any d 0 es ≡ length (accepted_by (Changes c) d es)
      → IsCutSo actor token fits (Changes c) cause (own es) → Fits (Changes c) d es
  stopped-fits c cause d es by may count (inl none) = λ a b e at y. absurd (no-own es a b e d none.1 at y)
  stopped-fits c cause d es by may count (inr part) =
      let P : Commit → Type 0 = λ c. Partly (Changes c) cause (own es) in
      partly-fits c cause d es may count (subst P (same-commit actor token fits c by) part)

  cut-fits : (act : Act) (cause : Stop) (d : Disk) (files : Files) (owners : Locks) (es : List Event) → OfCommit (IsBy actor token) act
      → Stands actor token d files owners → Honest d es → OthersAreLawful actor token d es
      → IsCutSo actor token fits act cause (own es) → Fits act d es
  cut-fits (Changes c) cause d files owners es by s honest lawful how =
      stopped-fits c cause d es by (may-run d files owners es s honest lawful) ((act-cut actor token fits (Changes c) cause d files owners es [] by s honest lawful how).count) how
  cut-fits (Line i) cause d files owners es by s honest lawful how = undecided-fit (Line i) d es ((act-cut actor token fits (Line i) cause d files owners es [] by s honest lawful how).count)
  cut-fits (Say bytes) cause d files owners es by s honest lawful how = undecided-fit (Say bytes) d es ((act-cut actor token fits (Say bytes) cause d files owners es [] by s honest lawful how).count)
  cut-fits (Read name) cause d files owners es by s honest lawful how = undecided-fit (Read name) d es ((act-cut actor token fits (Read name) cause d files owners es [] by s honest lawful how).count)
  cut-fits (Try name) cause d files owners es by s honest lawful how = undecided-fit (Try name) d es ((act-cut actor token fits (Try name) cause d files owners es [] by s honest lawful how).count)
  cut-fits (Child program args input) cause d files owners es by s honest lawful how =
      undecided-fit (Child program args input) d es ((act-cut actor token fits (Child program args input) cause d files owners es [] by s honest lawful how).count)
  cut-fits (Editor name shell command text) cause d files owners es by s honest lawful how =
      undecided-fit (Editor name shell command text) d es ((act-cut actor token fits (Editor name shell command text) cause d files owners es [] by s honest lawful how).count)
  cut-fits (Now tz) cause d files owners es by s honest lawful how = undecided-fit (Now tz) d es ((act-cut actor token fits (Now tz) cause d files owners es [] by s honest lawful how).count)
  cut-fits (Know texts) cause d files owners es by s honest lawful how =
      undecided-fit (Know texts) d es ((act-cut actor token fits (Know texts) cause d files owners es [] by s honest lawful how).count)
  cut-fits (Recover o t) cause d files owners es by s honest lawful how =
      undecided-fit (Recover o t) d es ((act-cut actor token fits (Recover o t) cause d files owners es [] by s honest lawful how).count)

  -- ---- plays
  abbrev Fit : Disk → Commits → List Event → Event → Type 0
  Fit d commits a e = (c : Commit) × Decides actor token d commits a e c × (first_refusal c.changes c.base (settled_files actor (disk d a)) ≡ None)

  fit-first : (act : Act) (d : Disk) (front : List Event) (commits : Commits) (more : List Commit) → commits.accepted ++ commits.pending ≡ accepted_by act d front ++ more → Fits act d front
      → (a k : List Event) (e : Event) → front ≡ a ++ e ∷ k → is_decision any e (disk d a) ≡ true → Fit d commits a e
  fit-first act d front commits more order fit a k e same y =
      let (c, acc, none, can) = fit a k e same y in
      (c, record { earlier = []; later = more; order = order ∙ ap (λ (l : List Commit). l ++ more) acc; passed = none; decision = y }, can)

  fit-later : (acc : List Commit) (d : Disk) (front : List Event) (commits later : Commits) → commits.accepted ++ commits.pending ≡ acc ++ (later.accepted ++ later.pending)
      → decisions any d 0 front ≡ length acc → (a k : List Event) (e : Event) → a ≡ front ++ k → is_decision any e (disk d a) ≡ true → Fit (disk d front) later k e → Fit d commits a e
  fit-later acc d front commits later order count a k e same y (c, w, can) =
      let at : disk (disk d front) k ≡ disk d a = sym (disk-append d front k) ∙ ap (disk d) (sym same) in
      let whole = ap (λ (l : List Event). decisions any d 0 l) same in
      let parts = decisions-then any front k d in
      let p = w.passed in
      let lengths = length-append acc w.earlier in (
        c,
        record {
          earlier = acc ++ w.earlier;
          later = w.later;
          order = order ∙ ap (λ (l : List Commit). acc ++ l) w.order ∙ sym (append_assoc acc w.earlier (c ∷ w.later));
          passed = omega (arith, whole, parts, p, lengths, count);
          decision = y;
        },
        subst (λ (w : Disk). first_refusal c.changes c.base (settled_files actor w) ≡ None) at can,
      )

  play-fits : {R : Type 0} (p : Play R) (d : Disk) (es : List Event) (commits : Commits) (out : Result R Stop) (files : Files) (owners : Locks)
      → EachCommit (IsBy actor token) p → Stands actor token d files owners
      → Honest d es → OthersAreLawful actor token d es → Passes p d es commits out → (a b : List Event) (e : Event) → es ≡ a ++ e ∷ b → is_decision any e (disk d a) ≡ true → Fit d commits a e
  play-fits (Ret r) d es commits out files owners each s honest lawful (none, is, end) a b e at y = absurd (no-own es a b e d none at y)
  play-fits (Ask act go) d es commits out files owners each s honest lawful (inl (answer, front, rest, later, is, did, commits_is, goes)) a b e at y =
      let honest_so = subst (Honest d) is honest in
      let lawful_so = subst (OthersAreLawful actor token d) is lawful in
      let here = honest-front front rest d honest_so in
      let others = lawful_front any front rest d lawful_so in
      let acc = accepted_by act d front in
      let x = act-answered actor token fits act answer d files owners front (queue later) each.0 s here others did in
      let q = queue_of acc ++ queue later in
      let now = after-piece actor token d q (queue later) files owners front (x.leaves tt) in
      let order : commits.accepted ++ commits.pending ≡ acc ++ (later.accepted ++ later.pending) =
      ap (λ (m : Commits). m.accepted ++ m.pending) commits_is ∙ append_assoc acc later.accepted later.pending in
      elim (stands-in front rest a e b (sym is ∙ at)) [
        | inl k ↦ fit-first act d front commits (later.accepted ++ later.pending) order (act-fits act answer d files owners front each.0 s here others did) a k.0 e k.1 y
        | inr k ↦ fit-later acc d front commits later order x.count a k.0 e k.1 y
            (play-fits (go answer) (disk d front) rest later out (run_files actor token d q files front) (run_locks actor token d owners front) (each.1 answer) now
            (honest-back front rest d honest_so) (lawful-back actor token front rest d lawful_so) goes k.0 b e k.2
            (subst (λ (w : Disk). is_decision any e w ≡ true) (ap (disk d) k.1 ∙ disk-append d front k.0) y))
      ]
  play-fits (Ask act go) d es commits out files owners each s honest lawful (inr (cause, is, commits_is, how)) a b e at y =
      let order : commits.accepted ++ commits.pending ≡ accepted_by act d es ++ pending_by act d es = ap (λ (m : Commits). m.accepted ++ m.pending) commits_is in
      fit-first act d es commits (pending_by act d es) order (cut-fits act cause d files owners es each.0 s honest lawful how) a b e at y

  -- the commits of one round, among all
  fit-among : (d : Disk) (first : List Commit) (commits : Commits) (more : List Commit) → commits.accepted ++ commits.pending ≡ first ++ more
      → (a : List Event) (e : Event) → Fit d (record { accepted = first; pending = [] }) a e → Fit d commits a e
  fit-among d first commits more order a e (c, w, can) = (
    c,
    record {
      earlier = w.earlier;
      later = w.later ++ more;
      order = order ∙ ap (λ (l : List Commit). l ++ more) (sym (append-nil first) ∙ w.order) ∙ append_assoc w.earlier (c ∷ w.later) more;
      passed = w.passed;
      decision = w.decision;
    },
    can,
  )

  -- the changes of the commit that is decided here can be made
  fit-can : (d : Disk) (commits : Commits) (front : List Event) (e : Event) (c : Commit) → Fit d commits front e → Decides actor token d commits front e c
      → first_refusal c.changes c.base (settled_files actor (disk d front)) ≡ None
  fit-can d commits front e c (x, w, can) decides =
      let place : x ≡ c = same-place w.earlier decides.earlier x c w.later decides.later (sym w.order ∙ decides.order) (sym w.passed ∙ decides.passed) in
      subst (λ (x : Commit). first_refusal x.changes x.base (settled_files actor (disk d front)) ≡ None) place can

  -- so a file that it rewrites alone begins with its base
  rewrites-fit : (d : Disk) (es : List Event) (commits : Commits) → CommitsFit actor token d es commits → RewritesFit actor token d es commits
  rewrites-fit d es commits fit front rest e c n list keep at decides one =
      only-begins (settled_files actor (disk d front)) n list c.base keep c.changes one (fit front rest e c at decides)

  begins-so : (d : Disk) (es : List Event) → MayRun actor token d es → Stands actor token d (settled_files actor d) (settled_locks actor d)
  begins-so d es may = record { settles = λ n. refl; locked = λ n. refl; sound = may.sound; fresh = may.fresh }

  module _ {X R : Type 0} (round : X → Play (Next X R)) (Keeps : X → Type 0) (each : (x : X) → Keeps x → EachCommit (IsBy actor token) (round x))
      (ends : (x : X) → Keeps x → AllEnds (NextKeeps Keeps) (round x)) where
    loop-fits : {x : X} {d : Disk} {es : List Event} {commits : Commits} {out : Result R Stop} (files : Files) (owners : Locks) → Keeps x → Stands actor token d files owners
        → Honest d es → OthersAreLawful actor token d es → PassesAll round x d es commits out → (a b : List Event) (e : Event) → es ≡ a ++ e ∷ b
        → is_decision any e (disk d a) ≡ true → Fit d commits a e
    loop-fits {x = x} {d = d} {commits = commits} files owners keeps s honest lawful (again {y = y} front rest first later is commits_is goes all) a b e at decides =
        let honest_so = subst (Honest d) is honest in
        let lawful_so = subst (OthersAreLawful actor token d) is lawful in
        let here = honest-front front rest d honest_so in
        let others = lawful_front any front rest d lawful_so in
        let these : Commits = record { accepted = first; pending = [] } in
        let one = play-passed actor token fits (round x) d front these (Ok (Go y)) (queue later) files owners (each x keeps) s here others goes in
        let kept : Keeps y = passes-ends actor token fits (NextKeeps Keeps) (round x) d front these (Go y) (ends x keeps) goes in
        let q = queue these ++ queue later in
        let now = after-piece actor token d q (queue later) files owners front (one.leaves tt) in
        let order : commits.accepted ++ commits.pending ≡ first ++ (later.accepted ++ later.pending) =
        ap (λ (m : Commits). m.accepted ++ m.pending) commits_is ∙ append_assoc first later.accepted later.pending in
        elim (stands-in front rest a e b (sym is ∙ at)) [
          | inl k ↦ fit-among d first commits (later.accepted ++ later.pending) order a e
              (play-fits (round x) d front these (Ok (Go y)) files owners (each x keeps) s here others goes a k.0 e k.1 decides)
          | inr k ↦ fit-later first d front commits later order one.count a k.0 e k.1 decides
              (loop-fits (run_files actor token d q files front) (run_locks actor token d owners front) kept now
              (honest-back front rest d honest_so) (lawful-back actor token front rest d lawful_so) all k.0 b e k.2
              (subst (λ (w : Disk). is_decision any e w ≡ true) (ap (disk d) k.1 ∙ disk-append d front k.0) decides))
        ]
    loop-fits {x = x} {d = d} {es = es} {commits = commits} files owners keeps s honest lawful (last {r = r} goes) a b e at decides =
        play-fits (round x) d es commits (Ok (Last r)) files owners (each x keeps) s honest lawful goes a b e at decides
    loop-fits {x = x} {d = d} {es = es} {commits = commits} files owners keeps s honest lawful (cut {cause = cause} goes) a b e at decides =
        play-fits (round x) d es commits (Err cause) files owners (each x keeps) s honest lawful goes a b e at decides

    -- rounds, with events after them that only look
    pub run-fits : (x : X) (d : Disk) (front rest : List Event) (commits : Commits) (out : Result R Stop) → Keeps x
        → MayRun actor token d (front ++ rest) → PassesAll round x d front commits out → OnlyLooks (own rest)
        → CommitsFit actor token d (front ++ rest) commits × RewritesFit actor token d (front ++ rest) commits
    run-fits x d front rest commits out keeps may all looks =
        let here = honest-front front rest d may.honest in
        let others = lawful_front any front rest d may.lawful in
        let fit : CommitsFit actor token d (front ++ rest) commits =
        λ a b e c at decides. fit-can d commits a e c (elim (stands-in front rest a e b at) [
          | inl k ↦ loop-fits (settled_files actor d) (settled_locks actor d) keeps (begins-so d (front ++ rest) may) here others all a k.0 e k.1 decides.decision
          | inr k ↦ absurd (none-here rest k.0 b e (disk d front) (looks-undecided any rest (disk d front) 0 looks) k.2
              (subst (λ (w : Disk). is_decision any e w ≡ true) (ap (disk d) k.1 ∙ disk-append d front k.0) decides.decision))
        ]) decides in
        (fit, rewrites-fit d (front ++ rest) commits fit)

pub decided_fit : DecidedFit
decided_fit p actor token d es commits out each may passes =
    let fits = may.fits in
    let s = begins-so actor token fits d es may in
    let fit : CommitsFit actor token d es commits =
    λ front rest e c at decides. fit-can actor token fits d commits front e c
    (play-fits actor token fits p d es commits out (settled_files actor d) (settled_locks actor d) each s may.honest may.lawful passes front rest e at decides.decision) decides in
    (fit, rewrites-fit actor token fits d es commits fit)
