-- Plays as a whole: their traces are safe, and what is accepted in them can be read.
use Rattle.std.proofs.Common.{◌≡◌, ℕ, ◌<◌, ◌||◌, Bool, true, false, List, [], ◌∷◌, ◌++◌, Option, Some, None, length, if◌then◌else◌, ◌⊎◌, refl, ap, sym, subst, inl, inr, ◌∙◌, arith, append-nil}
use Rattle.std.specs.List.{list_any}
use Rattle.std.specs.declared.result.Result.{Result}
use Rattle.std.specs.declared.result.Result.TheVariants.{Ok, Err}
use Rattle.host_port.specs.declared.event.Event.{Event}
use Rattle.host_port.specs.declared.event.Event.TheVariants as event
use Rattle.host_port.specs.Disk.{Disk, disk}
use Rattle.host_port.specs.Ends.{stopped}
use Rattle.host_port.specs.Own.{own, OnlyLooks}
use Rattle.host_port.proofs.RanLemmas.{disk-append}
use Rattle.folder_change.specs.declared.change.Change.{Change}
use Rattle.commit_machine.specs.Names.{is_record_name, record_name}
use Rattle.commit_machine.specs.Records.{record_in}
use Rattle.commit_machine.specs.Settled.{Files, hides, placed}
use Rattle.commit_machine.specs.Jobs.{Job, IsJob, Edit, Ending, all_of}
use Rattle.commit_machine.specs.Machine.{State, Call, Seizing, Ended, next, after_reply}
use Rattle.commit_machine.specs.Goes.{IsOf, asks, loads, stages, stage_fails, publishes, extends, extend_fails, erases, locks, unlocks, seizes, releases, IsNext, reply}
use Rattle.commit_machine.specs.Goes as machine
use Rattle.commit_machine.specs.Edits.{job_for, timed_for}
use Rattle.commit_machine.specs.Lawful.{IsFresh}
use Rattle.commit_machine.specs.Due.{settled_files, settled_locks}
use Rattle.commit_machine.specs.Laws.{IsRun, TellsDecisions, decisions, in_flight}
use Rattle.commit_machine.specs.Rows.{first_job, queue_after, run_files, run_locks}
use Rattle.commit_machine.proofs.runs.Ends.{lawful_front}
use Rattle.commit_machine.proofs.told.Decisions.{decisions_are_told}
use Rattle.folder_commit.specs.Commits.{IsCommit}
use Rattle.folder_commit.specs.Plans.{AreFiles}
use Rattle.folder_commit.specs.declared.error.CommitError.{CommitError}
use Rattle.folder_commit.specs.declared.error.CommitError.TheVariants as error
use Rattle.folder_commit.specs.Safe.{DecidedSo}
use Rattle.folder_commit.proofs.SafeLemmas.{decided-so}
use Rattle.folder_commit.proofs.PlanLemmas.{is-job}
use Rattle.session_play.specs.declared.changing.Attempt.TheVariants.{Made}
use Rattle.session_play.specs.declared.changing.Committed.TheVariants as committed
use Rattle.session_play.proofs.NamingLemmas.{named-files}
use Rattle.session_play.specs.declared.stop.Stop.{Stop}
use Rattle.session_play.specs.Acts.{AllActs, AllEnds, is_neutral}
use Rattle.session_play.specs.Committing.{Commit, IsCommitOf, IsWellNamed}
use Rattle.session_play.specs.Play.{Act, Changes, Play, Ret, Ask, Did, Partly, Goes, Next, Go, Last, Loop, Line, Say, Read, Try, Recover, Child, Editor, Now, Know}
use Rattle.session_play.specs.Play as plays
use Rattle.play_safety.specs.Passes.{decided_in, accepted_by, Commits, no_commits, behind, at_cut, Passes, PassesAll, again, last, cut}
use Rattle.play_safety.specs.Safe.{IsBy, OfCommit, EachCommit, NextKeeps, MayRun, queue, IsCalm, IsCrashSafe, is_output, PlaysAreSafe, TracesAreRead}
use Rattle.commit_machine.proofs.runs.OneJob.{Stands, Due, between}
use Rattle.play_safety.proofs.TraceLemmas.{parted, looks-undecided, decisions-then, decisions-untimed}
use Rattle.play_safety.proofs.CoverLemmas.{looks-covered, covers-then}
use Rattle.play_safety.proofs.SafeLemmas.{Passed, play-passed, loop-passed, honest-front, lawful-back}

-- own events that carry out a play, with steps of others among them
pub read-goes : {R : Type 0} (p : Play R) (d : Disk) (es os : List Event) (out : Result R Stop) → own es ≡ os → Goes p os out → (commits : Commits) × Passes p d es commits out
read-goes (Ret r) d es os out mine (none, end) = (no_commits, (mine ∙ none, refl, end))
read-goes (Ask act go) d es os out mine (inl (answer, front, rest, is, did, goes)) =
    let parts = parted es front rest (mine ∙ is) in
    let xs = parts.0 in
    let ys = parts.1 in
    let more = read-goes (go answer) (disk d xs) ys rest out parts.4 goes in
    (behind (accepted_by act d xs) more.0, inl (answer, xs, ys, more.0, parts.2, subst (Did act answer) (sym parts.3) did, refl, more.1))
read-goes (Ask act go) d es os out mine (inr (cause, is, inl (memory, none))) = (at_cut act d es, inr (cause, is, refl, inl (memory, mine ∙ none)))
read-goes (Ask act go) d es os out mine (inr (cause, is, inr part)) = (at_cut act d es, inr (cause, is, refl, inr (subst (Partly act cause) (sym mine) part)))

-- where a play comes to its end nothing is under way
none-pending : {R : Type 0} (p : Play R) (d : Disk) (es : List Event) (commits : Commits) (r : R) → Passes p d es commits (Ok r) → commits ≡ record { accepted = commits.accepted; pending = [] }
none-pending (Ret q) d es commits r (none, is, end) = is ∙ sym (ap (λ (c : Commits). record { accepted = c.accepted; pending = [] }) is)
none-pending (Ask act go) d es commits r (inl (answer, front, rest, later, is, did, commits_is, goes)) =
    let more = none-pending (go answer) (disk d front) rest later r goes in
    let f : Commits → Commits = λ c. record { accepted = c.accepted; pending = [] } in
    commits_is ∙ ap (behind (accepted_by act d front)) more ∙ sym (ap f commits_is)
none-pending (Ask act go) d es commits r (inr (cause, other, is, how)) = absurd (cc other)

-- own events of rounds
pub read-loop : {X R : Type 0} (round : X → Play (Next X R)) {x : X} {os : List Event} {out : Result R Stop} (d : Disk) (es : List Event)
    → own es ≡ os → Loop round x os out → (commits : Commits) × PassesAll round x d es commits out
read-loop round {x = x} d es mine (plays.again {y = y} front rest is goes more) =
    let parts = parted es front rest (mine ∙ is) in
    let xs = parts.0 in
    let ys = parts.1 in
    let one = read-goes (round x) d xs front (Ok (Go y)) parts.3 goes in
    let later = read-loop round (disk d xs) ys parts.4 more in
    let P : Commits → Type 0 = λ c. Passes (round x) d xs c (Ok (Go y)) in
    (behind one.0.accepted later.0, again xs ys one.0.accepted later.0 parts.2 refl (subst P (none-pending (round x) d xs one.0 (Go y) one.1) one.1) later.1)
read-loop round {x = x} d es mine (plays.last {r = r} goes) = let one = read-goes (round x) d es _ (Ok (Last r)) mine goes in (one.0, last one.1)
read-loop round {x = x} d es mine (plays.cut {cause = cause} goes) = let one = read-goes (round x) d es _ (Err cause) mine goes in (one.0, cut one.1)

pub traces_are_read : TracesAreRead
traces_are_read p d es out goes = read-goes p d es (own es) out refl goes

-- where no record stands what is settled is what stands
settled-plain : (actor : List ℕ) (files : Files) (n : List ℕ) → record_in (files (record_name actor)) ≡ None → is_record_name actor n ≡ false
    → (if hides actor (record_in (files (record_name actor))) n then None else placed (record_in (files (record_name actor))) files n) ≡ files n
settled-plain actor files n none plain = rw (none, plain) refl

module _ (actor : List ℕ) (token : ℕ) (d : Disk) (es : List Event) (may : MayRun actor token d es) where
  begins : Stands actor token d (settled_files actor d) (settled_locks actor d)
  begins = record { settles = λ n. refl; locked = λ n. refl; sound = may.sound; fresh = may.fresh }

  pub safe-of : {R ended : Type 0} (commits : Commits) (out : Result R Stop)
      → Passed actor token ended (IsCalm out) d (queue commits ++ []) [] (length commits.accepted) (settled_files actor d) (settled_locks actor d) es → IsCrashSafe actor token d es commits out
  safe-of commits out p =
      let q = queue commits in
      let whole : q ++ [] ≡ q = append-nil q in
      let files = settled_files actor d in
      let owners = settled_locks actor d in
      let D : List Event → Disk → List (List Edit) → Type 0 = λ l now q. Due actor token d q files owners l now in
      record {
        moments = λ front rest is. subst (D front (disk d front)) whole (p.covers.moments front rest is);
        stops = λ front rest e part is. subst (D (front ++ in_flight (disk d front) e part) (stopped (disk d front) e part)) whole (p.covers.stops front rest e part is);
        decided = p.count;
        nothing_left = p.fresh;
        files = λ none n plain.
            let due = subst (D es (disk d es)) whole (p.covers.moments es [] (sym (append-nil es))) in
            sym (settled-plain actor (disk d es).files n none plain) ∙ due.same_files n;
      }

pub plays_are_safe : PlaysAreSafe
plays_are_safe p actor token d es commits out each may passes =
    safe-of actor token d es may commits out
    (play-passed actor token may.fits p d es commits out [] (settled_files actor d) (settled_locks actor d) each (begins actor token d es may) may.honest may.lawful passes)

-- rounds, with events after them that only look
pub run-safe : {X R : Type 0} (round : X → Play (Next X R)) (x : X) (actor : List ℕ) (token : ℕ) (d : Disk) (front rest : List Event) (commits : Commits) (out : Result R Stop) (Keeps : X → Type 0)
    → ((y : X) → Keeps y → EachCommit (IsBy actor token) (round y)) → ((y : X) → Keeps y → AllEnds (NextKeeps Keeps) (round y)) → Keeps x
    → MayRun actor token d (front ++ rest) → PassesAll round x d front commits out → OnlyLooks (own rest) → IsCrashSafe actor token d (front ++ rest) commits out
run-safe round x actor token d front rest commits out Keeps each ends keeps may all looks =
    let files = settled_files actor d in
    let owners = settled_locks actor d in
    let q = queue commits ++ [] in
    let left = queue_after actor token d q front in
    let files_now = run_files actor token d q files front in
    let owners_now = run_locks actor token d owners front in
    let lawful = lawful-back actor token front rest d may.lawful in
    let p = loop-passed actor token may.fits round Keeps each ends [] files owners keeps (begins actor token d (front ++ rest) may)
    (honest-front front rest d may.honest) (lawful_front (first_job actor token []) front rest d may.lawful) all in
    let now = p.covers.moments front [] (sym (append-nil front)) in
    let count = p.count in
    let none = looks-undecided (first_job actor token []) rest (disk d front) 0 looks in
    let both = decisions-then (first_job actor token []) front rest d in
    safe-of actor token d (front ++ rest) may {ended = ⊥} commits out (record {
      covers = covers-then actor token d q left files owners front rest refl p.covers (looks-covered actor token (disk d front) left files_now owners_now now rest looks lawful);
      leaves = λ never. absurd never;
      count = omega (arith, count, none, both);
      fresh = λ c.
          let s : Stands actor token (disk d front) files_now owners_now = record { settles = now.same_files; locked = now.same_locks; sound = now.sound; fresh = p.fresh c } in
          let l = between actor token rest (disk d front) left files_now owners_now s looks lawful in
          subst (IsFresh actor token) (sym (disk-append d front rest)) l.fresh;
    })

-- the events of a job hold no output
call-silent : (c : Call) (e : Event) → IsOf c e → is_output e ≡ false
call-silent c e asks = refl
call-silent c e loads = refl
call-silent c e stages = refl
call-silent c e stage_fails = refl
call-silent c e publishes = refl
call-silent c e extends = refl
call-silent c e extend_fails = refl
call-silent c e erases = refl
call-silent c e locks = refl
call-silent c e unlocks = refl
call-silent c e seizes = refl
call-silent c e releases = refl

next-silent : (o : Option Call) (e : Event) → IsNext o e → is_output e ≡ false
next-silent None e never = absurd never
next-silent (Some c) e of = call-silent c e of

machine-silent : (j : Job) (s : State) (es : List Event) (end : State) → machine.Goes j s es end → list_any is_output es ≡ false
machine-silent j s [] end g = refl
machine-silent j s (e ∷ es) end g =
    ap (λ (b : Bool). b || list_any is_output es) (next-silent (next j g.0) e g.2) ∙ machine-silent j (after_reply j g.0 (reply e)) es end g.3

-- nor do the steps of others
silent-more : (b x y : Bool) → (b || x) ≡ false → (x ≡ false → y ≡ false) → (b || y) ≡ false
silent-more true x y h more = absurd (cc h)
silent-more false x y h more = more h

own-silent : (es : List Event) → list_any is_output (own es) ≡ false → list_any is_output es ≡ false
own-silent [] h = h
own-silent (event.Foreign step ∷ es) h = own-silent es h
own-silent (e ∷ es) h = silent-more (is_output e) (list_any is_output (own es)) (list_any is_output es) h (own-silent es)

abbrev failed : CommitError → Result Unit CommitError
failed why = Err why

done-of : (cs : List Change) (base : List (List ℕ)) (actor : List ℕ) (token : ℕ) (d : Disk) (es : List Event) → AreFiles actor cs
    → MayRun actor token d es → 0 < length cs → IsCommit actor token cs base (own es) (Ok tt)
    → (decisions (job_for actor token cs base) d 0 es ≡ 1) × (list_any is_output es ≡ false)
done-of [] base actor token d es are may some h = absurd (omega (arith, some))
done-of (c ∷ cs) base actor token d es are may some (inl (many, (none, inl other))) = absurd (cc other)
done-of (c ∷ cs) base actor token d es are may some (inl (many, (none, inr other))) = absurd (cc other)
done-of (c ∷ cs) base actor token d es are may some (inr (few, (time, h))) =
    let job = timed_for actor token time (c ∷ cs) base in
    let j : IsJob job = is-job actor token time (c ∷ cs) base may.fits are (omega arith) few in
    let run : IsRun job d es (Ended h.end) = record { job = j; fresh = may.fresh; sound = may.sound; goes = h.goes; honest = may.honest; lawful = may.lawful } in
    let one : decisions job d 0 es ≡ 1 = subst (λ (end : Ending). TellsDecisions end (decisions job d 0 es)) h.is_as (decisions_are_told job d es h.end run) in
    (sym (decisions-untimed (job_for actor token (c ∷ cs) base) (Some time) es d 0) ∙ one, own-silent es (machine-silent job Seizing (own es) (Ended h.end) h.goes))

-- no decision is what an answer says where too many files are named
none-so : (why : CommitError) (n count : ℕ) → n ≡ 0 → ((failed why ≡ failed (error.TooManyNames count)) ⊎ (failed why ≡ failed error.Memory)) → DecidedSo (failed why) n
none-so (error.Busy name) n count none how = none
none-so error.Record n count none how = none
none-so (error.Changed name at) n count none how = none
none-so (error.TooLarge name length) n count none how = none
none-so (error.TooManyNames k) n count none how = none
none-so error.Memory n count none how = none
none-so (error.Disk passed) n count none (inl other) = absurd (cc other)
none-so (error.Disk passed) n count none (inr other) = absurd (cc other)

refused-of : (why : CommitError) (cs : List Change) (base : List (List ℕ)) (actor : List ℕ) (token : ℕ) (d : Disk) (es : List Event)
    → AreFiles actor cs → MayRun actor token d es → IsCommit actor token cs base (own es) (failed why)
    → DecidedSo (failed why) (decisions (job_for actor token cs base) d 0 es)
refused-of why [] base actor token d es are may (none, is) = absurd (cc is)
refused-of why (c ∷ cs) base actor token d es are may (inl (many, (none, how))) =
    none-so why _ _ (looks-undecided (job_for actor token (c ∷ cs) base) es d 0 (subst OnlyLooks (sym none) tt)) how
refused-of why (c ∷ cs) base actor token d es are may (inr (few, (time, h))) =
    let job = timed_for actor token time (c ∷ cs) base in
    let j : IsJob job = is-job actor token time (c ∷ cs) base may.fits are (omega arith) few in
    let run : IsRun job d es (Ended h.end) = record { job = j; fresh = may.fresh; sound = may.sound; goes = h.goes; honest = may.honest; lawful = may.lawful } in
    subst (DecidedSo (failed why)) (decisions-untimed (job_for actor token (c ∷ cs) base) (Some time) es d 0)
    (decided-so (all_of job) (failed why) h.end (decisions job d 0 es) h.is_as (decisions_are_told job d es h.end run))

same-commit : (c : Commit) (actor : List ℕ) (token : ℕ) → IsBy actor token c → c ≡ record { actor = actor; token = token; changes = c.changes; base = c.base }
same-commit c actor token by =
    ap (λ (a : List ℕ). record { actor = a; token = c.token; changes = c.changes; base = c.base }) by.actor_is
    ∙ ap (λ (t : ℕ). record { actor = actor; token = t; changes = c.changes; base = c.base }) by.token_is

-- a commit that is answered as done is decided in its events, which hold no output
pub done-decided : (c : Commit) (actor : List ℕ) (token : ℕ) (d : Disk) (es : List Event) → IsBy actor token c → MayRun actor token d es → 0 < length c.changes
    → Did (Changes c) (Made committed.Done) (own es) → (decided_in c d es ≡ 1) × (list_any is_output es ≡ false)
done-decided c actor token d es by may some did =
    let P : Commit → Type 0 = λ c. Did (Changes c) (Made committed.Done) (own es) → (decided_in c d es ≡ 1) × (list_any is_output es ≡ false) in
    subst P (sym (same-commit c actor token by)) (λ h. done-of c.changes c.base actor token d es (named-files actor c.changes h.0) may some h.1) did

-- a commit that fails is decided as often as its answer says
pub refused-decided : (why : CommitError) (c : Commit) (actor : List ℕ) (token : ℕ) (d : Disk) (es : List Event) → IsBy actor token c → MayRun actor token d es
    → IsWellNamed c → IsCommitOf c (own es) (failed why) → DecidedSo (failed why) (decided_in c d es)
refused-decided why c actor token d es by may well did =
    let P : Commit → Type 0 = λ c. IsWellNamed c → IsCommitOf c (own es) (failed why) → DecidedSo (failed why) (decided_in c d es) in
    subst P (sym (same-commit c actor token by)) (λ w h. refused-of why c.changes c.base actor token d es (named-files actor c.changes w) may h) well did

-- acts that change nothing make no commit
neutral-commit : (P : Commit → Type 0) (act : Act) → is_neutral act ≡ true → OfCommit P act
neutral-commit P (Line i) h = tt
neutral-commit P (Say bytes) h = tt
neutral-commit P (Read name) h = tt
neutral-commit P (Try name) h = tt
neutral-commit P (Child program args input) h = tt
neutral-commit P (Editor name shell command text) h = tt
neutral-commit P (Now tz) h = tt
neutral-commit P (Know texts) h = tt
neutral-commit P (Changes c) h = absurd (cc h)
neutral-commit P (Recover actor token) h = absurd (cc h)

pub neutral-commits : {R : Type 0} (P : Commit → Type 0) (p : Play R) → AllActs is_neutral p → EachCommit P p
neutral-commits P (Ret r) all = tt
neutral-commits P (Ask act go) all = (neutral-commit P act all.0, λ a. neutral-commits P (go a) (all.1 a))
