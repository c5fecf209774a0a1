-- A delivery is crash safe, and what was accepted of it is as its status says.
use Rattle.std.proofs.Common.{◌≡◌, ◌⊎◌, ◌<◌, ◌^◌, ◌==◌, ◌++◌, ◌∷◌, ℕ, Bool, true, false, List, [], map, length, refl, sym, ap, ◌∙◌, subst, inl, inr, arith, if◌then◌else◌, append-nil, append_assoc}
use Rattle.std.specs.declared.option.Option.{Option}
use Rattle.std.specs.declared.option.Option.TheVariants.{Some, None}
use Rattle.std.specs.declared.result.Result.{Result}
use Rattle.std.specs.declared.result.Result.TheVariants.{Ok, Err}
use Rattle.host_port.specs.declared.event.Event.{Event}
use Rattle.host_port.specs.Disk.{Disk, disk}
use Rattle.host_port.specs.Own.{own}
use Rattle.host_port.specs.Ran.{Honest}
use Rattle.host_port.specs.declared.event.Event.TheVariants as event
use Rattle.host_port.proofs.RanLemmas.{own-append}
use Rattle.mail_dates.specs.declared.moment.Moment.{Moment}
use Rattle.commit_machine.specs.Records.{has}
use Rattle.commit_machine.specs.Settled.{Mem}
use Rattle.folder_commit.specs.declared.error.CommitError.TheVariants as error
use Rattle.folder_commit.specs.Safe.{MayCommit}
use Rattle.session_play.specs.declared.stop.Stop.{Stop}
use Rattle.session_play.specs.declared.stop.Stop.TheVariants as stop
use Rattle.session_play.specs.declared.changing.Attempt.{Attempt}
use Rattle.session_play.specs.declared.changing.Attempt.TheVariants.{Made, Misnamed}
use Rattle.session_play.specs.declared.changing.Committed.TheVariants as committed
use Rattle.session_play.specs.Committing.{Commit, Attempted, answer_as}
use Rattle.session_play.proofs.CommitLemmas.{commit-streams, none-streams}
use Rattle.session_play.specs.Input.{Input}
use Rattle.session_play.specs.Play.{Changes, Partly, Next, Go, Last}
use Rattle.play_safety.specs.Passes.{decided_in, accepted_by, Commits, Passes, PassesAll, again, last, cut}
use Rattle.play_safety.specs.Safe.{MayRun, IsCrashSafe, IsDecidedAs, AnswersAreDecided, AllAnswersAreDecided}
use Rattle.play_safety.proofs.LawLemmas.{read-loop, run-safe}
use Rattle.play_safety.proofs.DecidedLemmas.{run-decided}
use Rattle.mail_delivery.specs.declared.environment.Environment.{Environment}
use Rattle.mail_delivery.specs.declared.words.Request.{Request}
use Rattle.mail_delivery.specs.declared.status.DeliverStatus.{DeliverStatus}
use Rattle.mail_delivery.specs.declared.status.DeliverStatus.TheVariants as status
use Rattle.mail_delivery.specs.Words.{actor, mailbox, reading}
use Rattle.mail_delivery.specs.Delivered.{delivered}
use Rattle.mail_delivery.specs.Statuses.{status_of, status_at}
use Rattle.mail_delivery.specs.Meaning.{Taken, taken, nothing_taken, wanted, committing, delivering, after_line, round}
use Rattle.mail_delivery.specs.Runs.{Delivers, IsRun}
use Rattle.mail_delivery.specs.Crash.{IsDelivery, IsOneDelivery, AcceptedAs, DeliversSafely, IsSafe}
use Rattle.mail_delivery.proofs.AnswerLemmas.{additions-length}
use Rattle.mail_delivery.proofs.RequestLemmas.{IsGood, reading-good}
use Rattle.mail_delivery.specs.Source.{input_in}
use Rattle.mail_delivery.proofs.SourceLemmas.{TookLines, TookAll, TookOne, IsSource, took-none, none-in, line-took, all-more, source-more, mem-back}
use Rattle.mail_delivery.proofs.RoundLemmas.{Any, commits-round, ends-round}

-- the commit, if it was decided so often
abbrev by_count : Commit → ℕ → List Commit
by_count c n = if n == 0 then [] else c ∷ []

-- the events of a commit take no input
attempted-quiet : (c : Commit) (a : Attempt) (es : List Event) → Attempted c a es → input_in es ≡ []
attempted-quiet c (Made answer) es did = none-in es (commit-streams c es (answer_as answer) did.1).bytes
attempted-quiet c (Misnamed name fault) es did = none-in es (none-streams es did.1).bytes

cut-quiet : (c : Commit) (cause : Stop) (es : List Event) → ((cause ≡ stop.Memory) × (es ≡ [])) ⊎ Partly (Changes c) cause es → input_in es ≡ []
cut-quiet c cause es (inl p) = none-in es (none-streams es p.1).bytes
cut-quiet c stop.Disk es (inr p) = none-in es (commit-streams c es (Err (error.Disk p.1.0)) p.1.1).bytes
cut-quiet c stop.Memory es (inr p) = none-in es (commit-streams c es (Err error.Memory) p.1).bytes
cut-quiet c stop.Input es (inr never) = absurd never
cut-quiet c stop.Output es (inr never) = absurd never
cut-quiet c stop.TooMuch es (inr never) = absurd never

module _ (request : Request) (env : Environment) (good : IsGood request) where
  abbrev commit_of : List (List ℕ) → Moment → Commit
  commit_of lines m = wanted request env lines m

  some-changes : (lines : List (List ℕ)) (m : Moment) → 0 < length (commit_of lines m).changes
  some-changes lines m = let some = good.some in omega (arith, some, additions-length (delivered request.sender lines m) request.users)

  none-accepted : (lines : List (List ℕ)) (m : Moment) (d : Disk) (es : List Event) → decided_in (commit_of lines m) d es ≡ 0 → accepted_by (Changes (commit_of lines m)) d es ≡ []
  none-accepted lines m d es none = ap (by_count (commit_of lines m)) none

  -- ---- all own events, of which a message is made
  module _ (all : List Event) where
    abbrev IsOne : List Commit → Type 0
    IsOne cs = IsOneDelivery request env all cs

    -- what was accepted of a run that is cut off before the commit
    none-cut : (cause : Stop) → AcceptedAs request env all (status_at (Err cause)) []
    none-cut stop.Input = refl
    none-cut stop.Output = inl refl
    none-cut stop.Disk = inl refl
    none-cut stop.TooMuch = refl
    none-cut stop.Memory = inl refl

    -- what was accepted of a round that ends so
    abbrev Accepts : Result (Next Taken DeliverStatus) Stop → List Commit → Type 0
    Accepts (Ok (Go y)) cs = cs ≡ []
    Accepts (Ok (Last s)) cs = AcceptedAs request env all s cs
    Accepts (Err cause) cs = AcceptedAs request env all (status_at (Err cause)) cs

    accepts-at : (out : Result (Next Taken DeliverStatus) Stop) (a b : List Commit) → b ≡ a → Accepts out a → Accepts out b
    accepts-at out a b is h = subst (Accepts out) (sym is) h

    accepts-end : (out other : Result (Next Taken DeliverStatus) Stop) (cs : List Commit) → out ≡ other → Accepts other cs → Accepts out cs
    accepts-end out other cs is h = subst (λ (o : Result (Next Taken DeliverStatus) Stop). Accepts o cs) (sym is) h

    -- an act that commits nothing was cut off
    looked-cut : (commits : Commits) (out : Result (Next Taken DeliverStatus) Stop) (cause : Stop) → out ≡ Err cause → commits.accepted ≡ [] → Accepts out commits.accepted
    looked-cut commits out cause is none = accepts-at out [] commits.accepted none (accepts-end out (Err cause) [] is (none-cut cause))

    module _ (lines : List (List ℕ)) (m : Moment) (source : IsSource env all lines m) where
      this : IsDelivery request env all (commit_of lines m)
      this = record { moment = m; told = source.told; ended = source.all.ended; is = ap (λ (ls : List (List ℕ)). commit_of ls m) (sym source.all.lines_are) }

      either-way : (d : Disk) (es : List Event) → (accepted_by (Changes (commit_of lines m)) d es ≡ []) ⊎ IsOne (accepted_by (Changes (commit_of lines m)) d es)
      either-way d es = go (decided_in (commit_of lines m) d es == 0)
        where
          go : (b : Bool) → ((if b then [] else commit_of lines m ∷ []) ≡ []) ⊎ IsOne (if b then [] else commit_of lines m ∷ [])
          go true = inl refl
          go false = inr (commit_of lines m, refl, this)

      -- a commit that was answered
      answered-as : (a : Attempt) (d : Disk) (es : List Event) → IsDecidedAs (commit_of lines m) a d es
          → AcceptedAs request env all (status_of (map mailbox request.users) a) (accepted_by (Changes (commit_of lines m)) d es)
      answered-as (Made committed.Done) d es decided = (commit_of lines m, ap (by_count (commit_of lines m)) (decided (some-changes lines m)).0, this)
      answered-as (Made (committed.Busy name)) d es none = none-accepted lines m d es none
      answered-as (Made committed.NotARecord) d es none = none-accepted lines m d es none
      answered-as (Made (committed.TooLarge name n)) d es none = go (has (map mailbox request.users) name)
        where
          go : (b : Bool) → AcceptedAs request env all (if b then status.Refused else status.BadRecord) (accepted_by (Changes (commit_of lines m)) d es)
          go true = none-accepted lines m d es none
          go false = none-accepted lines m d es none
      answered-as (Made (committed.Changed name at)) d es none = none-accepted lines m d es none
      answered-as (Made (committed.TooManyNames n)) d es none = none-accepted lines m d es none
      answered-as (Misnamed name fault) d es none = none-accepted lines m d es none

      -- a cut in the commit
      cut-as : (d : Disk) (es : List Event) (cause : Stop) → ((cause ≡ stop.Memory) × (own es ≡ [])) ⊎ Partly (Changes (commit_of lines m)) cause (own es)
          → AcceptedAs request env all (status_at (Err cause)) (accepted_by (Changes (commit_of lines m)) d es)
      cut-as d es stop.Disk how = either-way d es
      cut-as d es stop.Memory how = either-way d es
      cut-as d es stop.Output how = either-way d es
      cut-as d es stop.Input (inl p) = absurd (let other = p.0 in cc other)
      cut-as d es stop.Input (inr never) = absurd never
      cut-as d es stop.TooMuch (inl p) = absurd (let other = p.0 in cc other)
      cut-as d es stop.TooMuch (inr never) = absurd never

      committing-accepts : (d : Disk) (es : List Event) (commits : Commits) (out : Result (Next Taken DeliverStatus) Stop) (p : Passes (committing request env lines m) d es commits out)
          → AnswersAreDecided (committing request env lines m) d es commits out p → Accepts out commits.accepted
      committing-accepts d es commits out (inl (a, front, rest, later, is, did, commits_is, (none, later_is, end))) decided =
          let by = accepted_by (Changes (commit_of lines m)) d front in
          let whole : commits.accepted ≡ by =
          ap (λ (c : Commits). c.accepted) commits_is ∙ ap (λ (c : Commits). by ++ c.accepted) later_is ∙ append-nil by in
          accepts-at out by commits.accepted whole (elim end [
            | inl e ↦ accepts-end out (Ok (Last (status_of (map mailbox request.users) a))) by e (answered-as a d front decided.0)
            | inr e ↦ accepts-end out (Err stop.Memory) by e (either-way d front)
          ])
      committing-accepts d es commits out (inr (cause, is, commits_is, how)) decided =
          let by = accepted_by (Changes (commit_of lines m)) d es in
          accepts-at out by commits.accepted (ap (λ (c : Commits). c.accepted) commits_is) (accepts-end out (Err cause) by is (cut-as d es cause how))

  -- ---- part by part, after the own events before
  committing-quiet : (lines : List (List ℕ)) (m : Moment) (d : Disk) (es : List Event) (commits : Commits)
      (out : Result (Next Taken DeliverStatus) Stop) → Passes (committing request env lines m) d es commits out → input_in (own es) ≡ []
  committing-quiet lines m d es commits out (inl (a, front, rest, later, is, did, commits_is, (none, later_is, end))) =
      ap (λ (l : List Event). input_in (own l)) is
      ∙ ap input_in (own-append front rest ∙ ap (λ (l : List Event). own front ++ l) none ∙ append-nil (own front))
      ∙ attempted-quiet (commit_of lines m) a (own front) did
  committing-quiet lines m d es commits out (inr (cause, is, commits_is, how)) = cut-quiet (commit_of lines m) cause (own es) how

  -- the own events of two parts, after those before
  parts-after : (before es front rest : List Event) → es ≡ front ++ rest → (before ++ own front) ++ own rest ≡ before ++ own es
  parts-after before es front rest is = append_assoc before (own front) (own rest) ∙ ap (λ (l : List Event). before ++ l) (sym (ap own is ∙ own-append front rest))

  delivering-accepts : (before : List Event) (lines : List (List ℕ)) → TookAll before lines
      → (d : Disk) (es : List Event) (commits : Commits) (out : Result (Next Taken DeliverStatus) Stop) (p : Passes (delivering request env lines) d es commits out)
      → AnswersAreDecided (delivering request env lines) d es commits out p → Accepts (before ++ own es) out commits.accepted
  delivering-accepts before lines took d es commits out (inl (m, front, rest, later, is, (seconds, now, moment), commits_is, goes)) decided =
      let asked = own front in
      let quiet : input_in asked ≡ [] = ap input_in now in
      let there : Mem (event.Now seconds) asked = subst (Mem (event.Now seconds)) (sym now) (inl refl) in
      let source : IsSource env (before ++ asked) lines m = record {
        all = all-more before asked lines quiet took;
        told = record { seconds = seconds; told = mem-back (event.Now seconds) before asked there; moment = moment };
      } in
      let whole : (before ++ asked) ++ own rest ≡ before ++ own es = parts-after before es front rest is in
      let none = committing-quiet lines m (disk d front) rest later out goes in
      let here : IsSource env (before ++ own es) lines m = subst (λ (l : List Event). IsSource env l lines m) whole (source-more env (before ++ asked) (own rest) lines m none source) in
      accepts-at (before ++ own es) out later.accepted commits.accepted (ap (λ (c : Commits). c.accepted) commits_is)
      (committing-accepts (before ++ own es) lines m here (disk d front) rest later out goes decided.1)
  delivering-accepts before lines took d es commits out (inr (cause, is, commits_is, how)) decided = looked-cut (before ++ own es) commits out cause is (ap (λ (c : Commits). c.accepted) commits_is)

  line-accepts : (before : List Event) (lines : List (List ℕ)) (line : Option (List ℕ)) (j : Input) → TookOne before lines line j
      → (d : Disk) (es : List Event) (commits : Commits) (out : Result (Next Taken DeliverStatus) Stop)
      (p : Passes (after_line request env lines line j) d es commits out) → AnswersAreDecided (after_line request env lines line j) d es commits out p → Accepts (before ++ own es) out commits.accepted
  line-accepts before lines (Some line) j took d es commits out (none, commits_is, end) decided =
      accepts-at (before ++ own es) out [] commits.accepted (ap (λ (c : Commits). c.accepted) commits_is) (elim end [
        | inl e ↦ accepts-end (before ++ own es) out (Ok (Go (taken j (lines ++ line ∷ [])))) [] e refl
        | inr e ↦ accepts-end (before ++ own es) out (Err stop.Memory) [] e (inl refl)
      ])
  line-accepts before lines None j took d es commits out p decided = delivering-accepts before lines took d es commits out p decided

  round-accepts : (before : List Event) (t : Taken) → TookLines before t
      → (d : Disk) (es : List Event) (commits : Commits) (out : Result (Next Taken DeliverStatus) Stop) (p : Passes (round request env t) d es commits out)
      → AnswersAreDecided (round request env t) d es commits out p → Accepts (before ++ own es) out commits.accepted
  round-accepts before t took d es commits out (inl (a, front, rest, later, is, did, commits_is, goes)) decided =
      let later_took = line-took before (own front) t a took did in
      subst (λ (l : List Event). Accepts l out commits.accepted) (parts-after before es front rest is)
      (accepts-at ((before ++ own front) ++ own rest) out later.accepted commits.accepted (ap (λ (c : Commits). c.accepted) commits_is)
      (line-accepts (before ++ own front) t.lines a.0 a.1 later_took (disk d front) rest later out goes decided.1))
  round-accepts before t took d es commits out (inr (cause, is, commits_is, how)) decided = looked-cut (before ++ own es) commits out cause is (ap (λ (c : Commits). c.accepted) commits_is)

  -- what a round took after which another follows
  abbrev goes_on : Taken → Result (Next Taken DeliverStatus) Stop
  goes_on y = Ok (Go y)

  same-next : (x y : Taken) → goes_on y ≡ goes_on x → x ≡ y
  same-next x y e = cc

  line-on : (before : List Event) (lines : List (List ℕ)) (line : Option (List ℕ)) (j : Input) (y : Taken) → TookOne before lines line j → (d : Disk) (es : List Event) (commits : Commits)
      → Passes (after_line request env lines line j) d es commits (goes_on y) → TookLines (before ++ own es) y
  line-on before lines (Some line) j y took d es commits (none, commits_is, inl e) =
      let whole : before ++ own es ≡ before = ap (λ (l : List Event). before ++ l) none ∙ append-nil before in
      subst (λ (l : List Event). TookLines l y) (sym whole) (subst (TookLines before) (same-next (taken j (lines ++ line ∷ [])) y e) took)
  line-on before lines (Some line) j y took d es commits (none, commits_is, inr e) = absurd (cc e)
  line-on before lines None j y took d es commits (inl (m, front, rest, later, is, did, commits_is, inl (a, front2, rest2, later2, is2, did2, commits2, (none, later_is, inl e)))) = absurd (cc e)
  line-on before lines None j y took d es commits (inl (m, front, rest, later, is, did, commits_is, inl (a, front2, rest2, later2, is2, did2, commits2, (none, later_is, inr e)))) = absurd (cc e)
  line-on before lines None j y took d es commits (inl (m, front, rest, later, is, did, commits_is, inr (cause, e, commits2, how))) = absurd (cc e)
  line-on before lines None j y took d es commits (inr (cause, e, commits_is, how)) = absurd (cc e)

  round-on : (before : List Event) (t y : Taken) → TookLines before t → (d : Disk) (es : List Event) (commits : Commits)
      → Passes (round request env t) d es commits (goes_on y) → TookLines (before ++ own es) y
  round-on before t y took d es commits (inl (a, front, rest, later, is, did, commits_is, goes)) =
      subst (λ (l : List Event). TookLines l y) (parts-after before es front rest is)
      (line-on (before ++ own front) t.lines a.0 a.1 y (line-took before (own front) t a took did) (disk d front) rest later goes)
  round-on before t y took d es commits (inr (cause, e, commits_is, how)) = absurd (cc e)

  loop-accepts : (before : List Event) {x : Taken} {d : Disk} {es : List Event} {commits : Commits} {out : Result DeliverStatus Stop} (all : PassesAll (round request env) x d es commits out)
      → TookLines before x → AllAnswersAreDecided all → AcceptedAs request env (before ++ own es) (status_at out) commits.accepted
  loop-accepts before {x = x} {d = d} {es = es} {commits = commits} {out = out} (again {y = y} front rest first later is commits_is goes more) took decided =
      let none : first ≡ [] = round-accepts before x took d front (record { accepted = first; pending = [] }) (Ok (Go y)) goes decided.0 in
      let whole : commits.accepted ≡ later.accepted = ap (λ (c : Commits). c.accepted) commits_is ∙ ap (λ (cs : List Commit). cs ++ later.accepted) none in
      let now = round-on before x y took d front (record { accepted = first; pending = [] }) goes in
      subst (λ (l : List Event). AcceptedAs request env l (status_at out) commits.accepted) (parts-after before es front rest is)
      (subst (AcceptedAs request env ((before ++ own front) ++ own rest) (status_at out)) (sym whole) (loop-accepts (before ++ own front) more now decided.1))
  loop-accepts before {x = x} {d = d} {es = es} {commits = commits} (last {r = r} goes) took decided = round-accepts before x took d es commits (Ok (Last r)) goes decided
  loop-accepts before {x = x} {d = d} {es = es} {commits = commits} (cut {cause = cause} goes) took decided = round-accepts before x took d es commits (Err cause) goes decided

  pub safely : (s : DeliverStatus) (d : Disk) (es : List Event) → env.token < 2 ^ 64 → Honest d es → MayCommit actor env.token d es
      → Delivers request env s (own es) → DeliversSafely request env s d es
  safely s d es fits honest may run =
      let read = read-loop (round request env) d es refl run.plays in
      let run_so : MayRun actor env.token d es = record { fits = fits; fresh = may.fresh; sound = may.sound; honest = honest; lawful = may.lawful } in
      let whole : es ++ [] ≡ es = append-nil es in
      let run_on : MayRun actor env.token d (es ++ []) = subst (MayRun actor env.token d) (sym whole) run_so in
      let decided = run-decided (round request env) nothing_taken actor env.token d es [] read.0 run.out Any (commits-round request env) (ends-round request env) tt run_on read.1 in
      record {
        out = run.out;
        commits = read.0;
        plays = read.1;
        status = run.status;
        safe = subst (λ (l : List Event). IsCrashSafe actor env.token d l read.0 run.out) whole
            (run-safe (round request env) nothing_taken actor env.token d es [] read.0 run.out Any (commits-round request env) (ends-round request env) tt run_on read.1 tt);
        answered = decided;
        accepted = subst (λ (s : DeliverStatus). AcceptedAs request env (own es) s read.0.accepted) (sym run.status) (loop-accepts [] read.1 took-none decided);
      }

-- a run of what words ask for
pub run-safely : (words : List (List ℕ)) (env : Environment) (s : DeliverStatus) (d : Disk) (es : List Event) → env.token < 2 ^ 64 → Honest d es → MayCommit actor env.token d es
    → IsRun (reading words env.pairs) env s (own es) → IsSafe (reading words env.pairs) env s d es
run-safely words env s d es fits honest may run = go (reading words env.pairs) refl run
  where
    go : (o : Option Request) → reading words env.pairs ≡ o → IsRun o env s (own es) → IsSafe o env s d es
    go None is run = run.0
    go (Some request) is run = safely request env (reading-good words env.pairs request is) s d es fits honest may run
