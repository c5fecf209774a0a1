-- What a run commits and recovers is a program of the core.
use Rattle.std.proofs.Common.{◌≡◌, ◌⊎◌, ℕ, ℤ, ◌≤◌, Bool, true, false, ◌&&◌, ◌||◌, not, List, [], ◌∷◌, ◌++◌, map, length, refl, ap, sym, subst, inl, inr, ◌∙◌, arith, append-nil, append_assoc}
use Rattle.std.specs.Prelude.{All, nat_lt, nat_le, if◌then◌else◌}
use Rattle.std.specs.List.{list_all, list_any}
use Rattle.std.specs.Str.{bytes_eq}
use Rattle.std.proofs.lemmas.Bool.{le-leb, lt-ltb}
use Rattle.std.proofs.lemmas.List.Elements.{All-head, All-tail}
use Rattle.std.specs.declared.result.Result.{Result}
use Rattle.std.specs.declared.result.Result.TheVariants.{Ok, Err}
use Rattle.host_port.specs.declared.event.Event.{Event}
use Rattle.folder_change.specs.declared.change.Change.{Change}
use Rattle.folder_change.specs.declared.change.Change.TheVariants.{Rewrite, Add, Front, AddRaw}
use Rattle.folder_change.specs.Changes.{name_of}
use Rattle.commit_record.specs.Format.{file_limit}
use Rattle.commit_machine.specs.Jobs.{Ending, Done, Recovered, Refused, Failed, NoMemory, Before, Job, all_of}
use Rattle.commit_machine.specs.Jobs as jobs
use Rattle.commit_machine.specs.Settled.{Mem}
use Rattle.commit_machine.specs.Laws.{MetNoFault}
use Rattle.commit_machine.specs.Machine.{Seizing, Ended}
use Rattle.commit_machine.specs.Goes as machine
use Rattle.commit_machine.specs.Edits.{without, first_names, timed_for, recovery_for}
use Rattle.commit_driver.specs.Did.{LoadsFit}
use Rattle.core_steps.specs.declared.actor.Actor.{Actor}
use Rattle.core_steps.specs.declared.actor.Task.{Task}
use Rattle.core_steps.specs.declared.actor.Task.TheVariants as task
use Rattle.core_steps.specs.Changes.{change_of, plain, files_named}
use Rattle.core_steps.specs.Names.{is_file_name}
use Rattle.core_steps.specs.Tasks.{job_of}
use Rattle.core_steps.specs.Turns.{is_any_record_name, may_commit}
use Rattle.core_steps.specs.Shown.{with_base}
use Rattle.core_steps.specs.Programs.{Work, may_begin, is_whole, IsWork}
use Rattle.core_steps.proofs.Jobs.{job-same}
use Rattle.folder_recovery.specs.Recovering.{found, GoesTo}
use Rattle.folder_commit.specs.declared.error.CommitError.{CommitError}
use Rattle.folder_commit.specs.declared.error.CommitError.TheVariants as error
use Rattle.folder_commit.specs.Commits.{IsCommit}
use Rattle.folder_commit.specs.Ends.{AnswersAs}
use Rattle.folder_commit.specs.Plans.{AreFiles}
use Rattle.session_play.specs.declared.changing.Attempt.{Attempt}
use Rattle.session_play.specs.declared.changing.Attempt.TheVariants.{Made, Misnamed}
use Rattle.session_play.specs.declared.changing.Committed.{Committed}
use Rattle.session_play.specs.declared.changing.Committed.TheVariants as committed
use Rattle.session_play.specs.declared.recovering.RecoveryAnswer.{RecoveryAnswer}
use Rattle.session_play.specs.declared.recovering.RecoveryAnswer.TheVariants as recovery
use Rattle.session_play.specs.declared.stop.Stop.{Stop}
use Rattle.session_play.specs.declared.stop.Stop.TheVariants as stop
use Rattle.session_play.specs.Acts.{AllEnds}
use Rattle.session_play.specs.Causes.{of_commit, commits_of, commits_in}
use Rattle.session_play.specs.Committing.{Commit, answer_as}
use Rattle.session_play.specs.Recovering.{IsRecoveryOf, recovery_as}
use Rattle.session_play.specs.Play.{Act, Answer, Line, Say, Read, Try, Changes, Recover, Child, Editor, Now, Know, Play, Ret, Ask, Did, Partly, Goes, Next, Go, Last, Loop, again, last, cut}
use Rattle.session_play.proofs.NamingLemmas.{named-files}
use Rattle.session_play.proofs.ShapeLemmas.{goes-ends}
use Rattle.play_safety.specs.Safe.{IsBy, OfCommit, EachCommit, NextKeeps}
use Rattle.run_laws.proofs.CallLemmas.{none, in_left, in_right, asked_for}
use Rattle.run_laws.proofs.CallLemmas as calls
use Rattle.run_laws.specs.Programs.{SparesRecords, EachSparesRecords, AllSpareRecords, asked_by, asked_of, asked_in, IsAsked, IsProgramOf, PlaysArePrograms}

-- ---- a commit's files may be committed
plain_same : (base : List (List ℕ)) (cs : List Change) → plain (map (with_base base) cs) ≡ cs
plain_same base [] = refl
plain_same base (c ∷ cs) = ap (λ (z : Change). z ∷ plain (map (with_base base) cs)) (same c) ∙ ap (λ (zs : List Change). c ∷ zs) (plain_same base cs)
  where
    same : (c : Change) → change_of (with_base base c) ≡ c
    same (Rewrite name list keep) = refl
    same (Add name texts) = refl
    same (Front name texts) = refl
    same (AddRaw name bytes) = refl

all_without : (p : List ℕ → Bool) (y : List ℕ) (ns : List (List ℕ)) → list_all p ns ≡ true → list_all p (without y ns) ≡ true
all_without p y [] all = refl
all_without p y (n ∷ ns) all = go (bytes_eq n y) (p n) refl (all_without p y ns)
  where
    go : (b t : Bool) → p n ≡ t → (list_all p ns ≡ true → list_all p (without y ns) ≡ true) → list_all p (if b then without y ns else n ∷ without y ns) ≡ true
    go b false is more = absurd (let whole = sym (ap (λ (t : Bool). t && list_all p ns) is) ∙ all in cc whole)
    go true true is more = more (sym (ap (λ (t : Bool). t && list_all p ns) is) ∙ all)
    go false true is more = ap (λ (t : Bool). t && list_all p (without y ns)) is ∙ more (sym (ap (λ (t : Bool). t && list_all p ns) is) ∙ all)

all_first : (p : List ℕ → Bool) (cs : List Change) → All (λ (c : Change). p (name_of c) ≡ true) cs → list_all p (first_names cs) ≡ true
all_first p [] all = refl
all_first p (c ∷ cs) all =
    let P : Change → Type 0 = λ c. p (name_of c) ≡ true in
    ap (λ (t : Bool). t && list_all p (without (name_of c) (first_names cs))) (All-head P c cs all)
    ∙ all_without p (name_of c) (first_names cs) (all_first p cs (All-tail P c cs all))

all_both : (p q : List ℕ → Bool) (ns : List (List ℕ)) → list_all p ns ≡ true → list_any q ns ≡ false → list_all (λ n. p n && not (q n)) ns ≡ true
all_both p q [] all none = refl
all_both p q (n ∷ ns) all none = go (p n) (q n) (list_all p ns) (list_any q ns) (list_all (λ n. p n && not (q n)) ns) all none (all_both p q ns)
  where
    go : (a b xs ys zs : Bool) → (a && xs) ≡ true → (b || ys) ≡ false → (xs ≡ true → ys ≡ false → zs ≡ true) → ((a && not b) && zs) ≡ true
    go true false xs ys zs h g more = more h g
    go true true xs ys zs h g more = absurd (cc g)
    go false b xs ys zs h g more = absurd (cc h)

three : (a b c : Bool) → a ≡ true → b ≡ true → c ≡ true → ((a && b) && c) ≡ true
three true true c p q r = r
three true false c p q r = absurd (cc q)
three false b c p q r = absurd (cc p)

module _ (actors : List Actor) (name : List ℕ) (token : ℕ) (wanted : List Commit) where
  abbrev a : Actor
  a = record { name = name; token = token }

  may_be_committed : (c : Change) (cs : List Change) (base : List (List ℕ)) → AreFiles name (c ∷ cs) → length (first_names (c ∷ cs)) ≤ file_limit
      → list_any (is_any_record_name actors) (first_names (c ∷ cs)) ≡ false → may_commit actors a (map (with_base base) (c ∷ cs)) ≡ true
  may_be_committed c cs base files few spares =
      let names : files_named (map (with_base base) (c ∷ cs)) ≡ first_names (c ∷ cs) = ap first_names (plain_same base (c ∷ cs)) in
      let named : list_all (λ n. is_file_name name n && not (is_any_record_name actors n)) (first_names (c ∷ cs)) ≡ true =
      all_both (is_file_name name) (is_any_record_name actors) (first_names (c ∷ cs)) (all_first (is_file_name name) (c ∷ cs) files) spares in
      let some : nat_lt 0 (length (map (with_base base) (c ∷ cs))) ≡ true = lt-ltb _ _ (omega arith) in
      three (nat_lt 0 (length (map (with_base base) (c ∷ cs)))) (nat_le (length (files_named (map (with_base base) (c ∷ cs)))) file_limit)
      (list_all (λ n. is_file_name name n && not (is_any_record_name actors n)) (files_named (map (with_base base) (c ∷ cs)))) some
      (ap (λ (ns : List (List ℕ)). nat_le (length ns) file_limit) names ∙ le-leb _ _ few)
      (ap (list_all (λ n. is_file_name name n && not (is_any_record_name actors n))) names ∙ named)

  -- ---- the calls of a program
  abbrev Is : List Event → Type 0
  Is es = IsProgramOf actors a wanted es

  pub nothing : Is []
  nothing = none actors a wanted

  and_then : (w : Work) (ys : List Event) → IsWork actors a w → IsAsked wanted w.task → LoadsFit w.calls → Is ys → Is (w.calls ++ ys)
  and_then w ys work asked fit more = calls.and_then actors a wanted w ys work (asked_for wanted w.task w.calls asked) fit more

  -- one that is the last
  at_last : (t : Task) (es : List Event) (end : Ending) → may_begin actors a t ≡ true → IsAsked wanted t → LoadsFit es
      → machine.Goes (job_of a t) Seizing es (Ended end) → Is es
  at_last t es end may asked fit goes = calls.at_last actors a wanted t es (Ended end) may (asked_for wanted t es asked) fit goes

  whole_end : (end : Ending) → MetNoFault end → is_whole end ≡ true
  whole_end Done fine = refl
  whole_end (Recovered f) fine = refl
  whole_end (Refused why) fine = refl
  whole_end (Failed passed) never = absurd never
  whole_end NoMemory fine = refl

  -- nothing of these was done, but for what follows
  abbrev After : List Event → List Event → Type 0
  After es ys = Is ys → Is (es ++ ys)

  none_after : (es ys : List Event) → es ≡ [] → After es ys
  none_after es ys none more = subst (λ (l : List Event). Is (l ++ ys)) (sym none) more

  module _ (cs : List Change) (base : List (List ℕ)) (es : List Event) (files : AreFiles name cs) (spares : list_any (is_any_record_name actors) (first_names cs) ≡ false) where
    abbrev commit_task : ℤ → Task
    commit_task time = task.Commit (map (with_base base) cs) time

    goes_as : (time : ℤ) (end : Ending) → machine.Goes (timed_for name token time cs base) Seizing es (Ended end) → machine.Goes (job_of a (commit_task time)) Seizing es (Ended end)
    goes_as time end goes = subst (λ (j : Job). machine.Goes j Seizing es (Ended end)) (sym (job-same base name token time cs)) goes

  end_fine : (answer : Committed) (files : List (List ℕ)) (end : Ending) → AnswersAs files (answer_as answer) end → MetNoFault end
  end_fine committed.Done files end is = subst MetNoFault (sym is) tt
  end_fine (committed.Busy file) files end is = subst MetNoFault (sym is) tt
  end_fine committed.NotARecord files end is = subst MetNoFault (sym is) tt
  end_fine (committed.Changed file at) files end is = subst MetNoFault (sym is) tt
  end_fine (committed.TooLarge file n) files end is = subst MetNoFault (sym is) tt
  end_fine (committed.TooManyNames n) files end never = absurd never

  abbrev Spares : List Change → Type 0
  Spares cs = list_any (is_any_record_name actors) (first_names cs) ≡ false

  -- one of the wanted commits has these changes
  abbrev Asks : List Change → List (List ℕ) → Type 0
  Asks cs base = (k : Commit) × Mem k wanted × (map (with_base base) cs ≡ map (with_base k.base) k.changes)

  commit_did : (cs : List Change) (base : List (List ℕ)) (es ys : List Event) (answer : Committed) → AreFiles name cs → Spares cs → Asks cs base
      → IsCommit name token cs base es (answer_as answer) → After es ys
  commit_did [] base es ys answer files spares asks is = none_after es ys is.0
  commit_did (c ∷ cs) base es ys answer files spares asks (inl many) = none_after es ys many.1.0
  commit_did (c ∷ cs) base es ys answer files spares asks (inr (few, (time, h))) = λ more.
      let work : Work = record { task = commit_task (c ∷ cs) base es files spares time; calls = es; end = h.end } in
      let fine = end_fine answer (all_of (timed_for name token time (c ∷ cs) base)) h.end h.is_as in
      and_then work ys (may_be_committed c cs base files few spares, goes_as (c ∷ cs) base es files spares time h.end h.goes, whole_end h.end fine) asks h.fit more

  commit_cut : (cs : List Change) (base : List (List ℕ)) (es : List Event) (result : Result Unit CommitError) → AreFiles name cs → Spares cs → Asks cs base
      → IsCommit name token cs base es result → Is es
  commit_cut [] base es result files spares asks is = subst Is (sym is.0) nothing
  commit_cut (c ∷ cs) base es result files spares asks (inl many) = subst Is (sym many.1.0) nothing
  commit_cut (c ∷ cs) base es result files spares asks (inr (few, (time, h))) =
      at_last (commit_task (c ∷ cs) base es files spares time) es h.end (may_be_committed c cs base files few spares) asks h.fit (goes_as (c ∷ cs) base es files spares time h.end h.goes)

  recovered : (es ys : List Event) (end : Ending) → MetNoFault end → LoadsFit es → GoesTo (recovery_for name token) es end → After es ys
  recovered es ys end fine fit goes = λ more. and_then (record { task = task.Recover; calls = es; end = end }) ys (refl, goes, whole_end end fine) tt fit more

  recovery_did : (es ys : List Event) (answer : RecoveryAnswer) → IsRecoveryOf name token es (recovery_as answer) → After es ys
  recovery_did es ys (recovery.Done f) h = recovered es ys (jobs.Recovered (found f)) tt h.0 h.1
  recovery_did es ys (recovery.Busy file) h = recovered es ys (Refused (jobs.Busy file)) tt h.0 h.1.1
  recovery_did es ys recovery.NotARecord h = recovered es ys (Refused jobs.NotARecord) tt h.0 h.1
  recovery_did es ys (recovery.TooLarge file n) h = recovered es ys (Refused (jobs.TooLarge file n)) tt h.0 h.1.1

  recovery_cut : (cause : Stop) (es : List Event) → Partly (Recover name token) cause es → Is es
  recovery_cut stop.Disk es h = at_last task.Recover es (Failed Before) refl tt h.0 h.1
  recovery_cut stop.Memory es (fit, inl h) = at_last task.Recover es NoMemory refl tt fit h
  recovery_cut stop.Memory es (fit, inr h) = at_last task.Recover es (Refused jobs.NotARecord) refl tt fit h
  recovery_cut stop.Input es never = absurd never
  recovery_cut stop.Output es never = absurd never
  recovery_cut stop.TooMuch es never = absurd never

  -- ---- acts
  attempt_did : (c : Commit) (answer : Attempt) (es ys : List Event) → c.actor ≡ name → c.token ≡ token → Spares c.changes → Mem c wanted → Did (Changes c) answer es → After es ys
  attempt_did c (Made answer) es ys same number spares at (well, h) =
      commit_did c.changes c.base es ys answer (subst (λ (n : List ℕ). AreFiles n c.changes) same (named-files c.actor c.changes well)) spares (c, at, refl)
      (subst (λ (n : List ℕ). IsCommit n token c.changes c.base es (answer_as answer)) same (subst (λ (t : ℕ). IsCommit c.actor t c.changes c.base es (answer_as answer)) number h))
  attempt_did c (Misnamed file fault) es ys same number spares at did = none_after es ys did.1

  part_cut : (c : Commit) (result : Result Unit CommitError) (es : List Event) → c.actor ≡ name → c.token ≡ token → Spares c.changes → Mem c wanted
      → AreFiles c.actor c.changes → IsCommit c.actor c.token c.changes c.base es result → Is es
  part_cut c result es same number spares at files h =
      commit_cut c.changes c.base es result (subst (λ (n : List ℕ). AreFiles n c.changes) same files) spares (c, at, refl)
      (subst (λ (n : List ℕ). IsCommit n token c.changes c.base es result) same (subst (λ (t : ℕ). IsCommit c.actor t c.changes c.base es result) number h))

  commit_part : (c : Commit) (cause : Stop) (es : List Event) → c.actor ≡ name → c.token ≡ token → Spares c.changes → Mem c wanted → Partly (Changes c) cause es → Is es
  commit_part c stop.Disk es same number spares at (well, (passed, h)) = part_cut c (Err (error.Disk passed)) es same number spares at (named-files c.actor c.changes well) h
  commit_part c stop.Memory es same number spares at (well, h) = part_cut c (Err error.Memory) es same number spares at (named-files c.actor c.changes well) h
  commit_part c stop.Input es same number spares at never = absurd never
  commit_part c stop.Output es same number spares at never = absurd never
  commit_part c stop.TooMuch es same number spares at never = absurd never

  -- the commits of a part are among those that are wanted
  abbrev Among : List Commit → Type 0
  Among cs = (k : Commit) → Mem k cs → Mem k wanted

  act_did : (act : Act) (answer : Answer act) (es ys : List Event) → OfCommit (IsBy name token) act → SparesRecords actors act → Among (asked_by act)
      → Did act answer es → After (of_commit act es) ys
  act_did (Changes c) answer es ys by spares asked did = attempt_did c answer es ys by.actor_is by.token_is spares (asked c (inl refl)) did
  act_did (Recover b t) answer es ys by spares asked did =
      recovery_did es ys answer (subst (λ (t : ℕ). IsRecoveryOf name t es (recovery_as answer)) by.token_is (subst (λ (b : List ℕ). IsRecoveryOf b t es (recovery_as answer)) by.actor_is did))
  act_did (Line i) answer es ys by spares asked did = λ more. more
  act_did (Say bytes) answer es ys by spares asked did = λ more. more
  act_did (Read file) answer es ys by spares asked did = λ more. more
  act_did (Try file) answer es ys by spares asked did = λ more. more
  act_did (Child program args input) answer es ys by spares asked did = λ more. more
  act_did (Editor file shell command text) answer es ys by spares asked did = λ more. more
  act_did (Now tz) answer es ys by spares asked did = λ more. more
  act_did (Know q) answer es ys by spares asked did = λ more. more

  act_part : (act : Act) (cause : Stop) (es : List Event) → OfCommit (IsBy name token) act → SparesRecords actors act → Among (asked_by act) → Partly act cause es
      → Is (of_commit act es)
  act_part (Changes c) cause es by spares asked part = commit_part c cause es by.actor_is by.token_is spares (asked c (inl refl)) part
  act_part (Recover b t) cause es by spares asked part =
      recovery_cut cause es (subst (λ (t : ℕ). Partly (Recover name t) cause es) by.token_is (subst (λ (b : List ℕ). Partly (Recover b t) cause es) by.actor_is part))
  act_part (Line i) cause es by spares asked part = nothing
  act_part (Say bytes) cause es by spares asked part = nothing
  act_part (Read file) cause es by spares asked part = nothing
  act_part (Try file) cause es by spares asked part = nothing
  act_part (Child program args input) cause es by spares asked part = nothing
  act_part (Editor file shell command text) cause es by spares asked part = nothing
  act_part (Now tz) cause es by spares asked part = nothing
  act_part (Know q) cause es by spares asked part = nothing

  of_none : (act : Act) → of_commit act [] ≡ []
  of_none (Changes c) = refl
  of_none (Recover b t) = refl
  of_none (Line i) = refl
  of_none (Say bytes) = refl
  of_none (Read file) = refl
  of_none (Try file) = refl
  of_none (Child program args input) = refl
  of_none (Editor file shell command text) = refl
  of_none (Now tz) = refl
  of_none (Know q) = refl

  act_cut : (act : Act) (cause : Stop) (es : List Event) → OfCommit (IsBy name token) act → SparesRecords actors act → Among (asked_by act)
      → (((cause ≡ stop.Memory) × (es ≡ [])) ⊎ Partly act cause es) → Is (of_commit act es)
  act_cut act cause es by spares asked (inl none) = subst Is (sym (ap (of_commit act) none.1 ∙ of_none act)) nothing
  act_cut act cause es by spares asked (inr part) = act_part act cause es by spares asked part

  -- ---- plays and rounds; what follows a play that was cut off is nothing
  pub program_of : {R : Type 0} (p : Play R) (es : List Event) (out : Result R Stop) (goes : Goes p es out) (ys : List Event) → EachCommit (IsBy name token) p → EachSparesRecords actors p es out goes
      → Among (asked_of p es out goes) → ((cause : Stop) → out ≡ Err cause → ys ≡ []) → Is ys → Is (commits_of p es out goes ++ ys)
  program_of (Ret r) es out goes ys each spares asked cuts more = more
  program_of (Ask act go) es out (inl (answer, front, rest, is, did, goes)) ys each spares asked cuts more =
      let later = commits_of (go answer) rest out goes in
      subst Is (sym (append_assoc (of_commit act front) later ys))
      (act_did act answer front (later ++ ys) each.0 spares.0 (λ k at. asked k (in_left k (asked_by act) (asked_of (go answer) rest out goes) at)) did
      (program_of (go answer) rest out goes ys (each.1 answer) spares.1 (λ k at. asked k (in_right k (asked_by act) (asked_of (go answer) rest out goes) at)) cuts more))
  program_of (Ask act go) es out (inr (cause, is, how)) ys each spares asked cuts more =
      subst (λ (ys : List Event). Is (of_commit act es ++ ys)) (sym (cuts cause is))
      (subst Is (sym (append-nil (of_commit act es))) (act_cut act cause es each.0 spares asked how))

  module _ {X R : Type 0} (round : X → Play (Next X R)) (Keeps : X → Type 0) (each : (x : X) → Keeps x → EachCommit (IsBy name token) (round x)) (ends : (x : X) → Keeps x
      → AllEnds (NextKeeps Keeps) (round x)) where
    pub loop_program : {x : X} {es : List Event} {out : Result R Stop} (loop : Loop round x es out) → Keeps x → AllSpareRecords actors loop → Among (asked_in loop)
        → Is (commits_in loop)
    loop_program {x = x} (again {y = y} front rest is goes more) keeps spares asked =
        program_of (round x) front (Ok (Go y)) goes (commits_in more) (each x keeps) spares.0
        (λ k at. asked k (in_left k (asked_of (round x) front (Ok (Go y)) goes) (asked_in more) at)) (λ cause other. absurd (cc other))
        (loop_program more (goes-ends (NextKeeps Keeps) (round x) front (Go y) (ends x keeps) goes) spares.1
        (λ k at. asked k (in_right k (asked_of (round x) front (Ok (Go y)) goes) (asked_in more) at)))
    loop_program {x = x} {es = es} (last {r = r} goes) keeps spares asked =
        subst Is (append-nil _) (program_of (round x) es (Ok (Last r)) goes [] (each x keeps) spares asked (λ cause other. refl) nothing)
    loop_program {x = x} {es = es} (cut {cause = cause} goes) keeps spares asked =
        subst Is (append-nil _) (program_of (round x) es (Err cause) goes [] (each x keeps) spares asked (λ other is. refl) nothing)

pub plays_are_programs : PlaysArePrograms
plays_are_programs p es out goes name token actors each spares =
    let cs = asked_of p es out goes in
    subst (IsProgramOf actors (record { name = name; token = token }) cs) (append-nil (commits_of p es out goes))
    (program_of actors name token cs p es out goes [] each spares (λ k at. at) (λ cause is. refl) (nothing actors name token cs))
