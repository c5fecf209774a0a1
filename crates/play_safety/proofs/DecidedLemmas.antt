-- Each commit that was answered as done is decided in its own stretch, which holds no output, and one that was refused is not.
use Rattle.std.proofs.Common.{◌≡◌, ℕ, ◌<◌, ◌^◌, List, [], ◌++◌, length, refl, ap, sym, subst, inl, inr, append-nil}
use Rattle.std.specs.declared.result.Result.{Result}
use Rattle.std.specs.declared.result.Result.TheVariants.{Ok, Err}
use Rattle.host_port.specs.declared.event.Event.{Event}
use Rattle.host_port.specs.Disk.{Disk, disk}
use Rattle.host_port.specs.Own.{own, OnlyLooks}
use Rattle.host_port.specs.Ran.{Honest}
use Rattle.commit_machine.specs.Settled.{Files, Locks}
use Rattle.commit_machine.specs.Jobs.{Edit}
use Rattle.commit_machine.specs.Lawful.{OthersAreLawful}
use Rattle.commit_machine.specs.Due.{settled_files, settled_locks}
use Rattle.commit_machine.specs.Rows.{first_job, run_files, run_locks}
use Rattle.commit_machine.proofs.runs.Ends.{lawful_front}
use Rattle.folder_commit.specs.declared.error.CommitError.TheVariants as error
use Rattle.session_play.specs.declared.changing.Attempt.{Attempt}
use Rattle.session_play.specs.declared.changing.Attempt.TheVariants.{Made, Misnamed}
use Rattle.session_play.specs.declared.changing.Committed.TheVariants as committed
use Rattle.session_play.specs.declared.stop.Stop.{Stop}
use Rattle.session_play.specs.Acts.{AllEnds}
use Rattle.session_play.specs.Committing.{Commit}
use Rattle.session_play.specs.Play.{Act, Answer, Changes, Play, Ret, Ask, Did, Next, Go, Last, Line, Say, Read, Try, Recover, Child, Editor, Now, Know}
use Rattle.play_safety.specs.Passes.{job_of, accepted_by, Commits, Passes, PassesAll, again, last, cut}
use Rattle.play_safety.specs.Safe.{IsBy, OfCommit, EachCommit, NextKeeps, MayRun, queue_of, queue, IsDecidedAs, OfAnswer, AnswersAreDecided, AllAnswersAreDecided, DoneIsDecided}
use Rattle.commit_machine.proofs.runs.OneJob.{Stands, after-piece, honest-back}
use Rattle.play_safety.proofs.SafeLemmas.{passed-as, act-answered, play-passed, passes-ends, honest-front, lawful-back}
use Rattle.play_safety.proofs.TraceLemmas.{looks-undecided}
use Rattle.play_safety.proofs.LawLemmas.{done-decided, refused-decided}

module _ (actor : List ℕ) (token : ℕ) (fits : token < 2 ^ 64) where
  may-run : (d : Disk) (files : Files) (owners : Locks) (es : List Event) → Stands actor token d files owners → Honest d es → OthersAreLawful actor token d es → MayRun actor token d es
  may-run d files owners es s honest lawful = record { fits = fits; fresh = s.fresh; sound = s.sound; honest = honest; lawful = lawful }

  commit-decided : (c : Commit) (a : Attempt) (d : Disk) (es : List Event) → IsBy actor token c → MayRun actor token d es → Did (Changes c) a (own es) → IsDecidedAs c a d es
  commit-decided c (Made committed.Done) d es by may did = λ some. done-decided c actor token d es by may some did
  commit-decided c (Made (committed.Busy name)) d es by may (well, did) = refused-decided (error.Busy name) c actor token d es by may well did
  commit-decided c (Made committed.NotARecord) d es by may (well, did) = refused-decided error.Record c actor token d es by may well did
  commit-decided c (Made (committed.Changed name at)) d es by may (well, did) = refused-decided (error.Changed name at) c actor token d es by may well did
  commit-decided c (Made (committed.TooLarge name n)) d es by may (well, did) = refused-decided (error.TooLarge name n) c actor token d es by may well did
  commit-decided c (Made (committed.TooManyNames n)) d es by may (well, did) = refused-decided (error.TooManyNames n) c actor token d es by may well did
  commit-decided c (Misnamed name fault) d es by may (is, none) = looks-undecided (job_of c) es d 0 (subst OnlyLooks (sym none) tt)

  act-decided : (act : Act) (a : Answer act) (d : Disk) (es : List Event) → OfCommit (IsBy actor token) act → MayRun actor token d es → Did act a (own es) → OfAnswer act a d es
  act-decided (Changes c) a d es by may did = commit-decided c a d es by may did
  act-decided (Line i) a d es by may did = tt
  act-decided (Say bytes) a d es by may did = tt
  act-decided (Read name) a d es by may did = tt
  act-decided (Try name) a d es by may did = tt
  act-decided (Recover b t) a d es by may did = tt
  act-decided (Child program args input) a d es by may did = tt
  act-decided (Editor name shell command text) a d es by may did = tt
  act-decided (Now tz) a d es by may did = tt
  act-decided (Know texts) a d es by may did = tt

  pub play-decided : {R : Type 0} (p : Play R) (d : Disk) (es : List Event) (commits : Commits) (out : Result R Stop) (more : List (List Edit))
      (files : Files) (owners : Locks) → EachCommit (IsBy actor token) p → Stands actor token d files owners
      → Honest d es → OthersAreLawful actor token d es → (passes : Passes p d es commits out) → AnswersAreDecided p d es commits out passes
  play-decided (Ret r) d es commits out more files owners each s honest lawful passes = tt
  play-decided (Ask act go) d es commits out more files owners each s honest lawful (inl (answer, front, rest, later, is, did, commits_is, goes)) =
      let honest_so = subst (Honest d) is honest in
      let lawful_so = subst (OthersAreLawful actor token d) is lawful in
      let here = honest-front front rest d honest_so in
      let others = lawful_front (first_job actor token []) front rest d lawful_so in
      let x = act-answered actor token fits act answer d files owners front (queue later ++ more) each.0 s here others did in
      let q = queue_of (accepted_by act d front) ++ (queue later ++ more) in
      let now = after-piece actor token d q (queue later ++ more) files owners front (x.leaves tt) in (
        act-decided act answer d front each.0 (may-run d files owners front s here others) did,
        play-decided (go answer) (disk d front) rest later out more (run_files actor token d q files front) (run_locks actor token d owners front)
            (each.1 answer) now (honest-back front rest d honest_so) (lawful-back actor token front rest d lawful_so) goes,
      )
  play-decided (Ask act go) d es commits out more files owners each s honest lawful (inr stopped) = tt

  module _ {X R : Type 0} (round : X → Play (Next X R)) (Keeps : X → Type 0) (each : (x : X) → Keeps x → EachCommit (IsBy actor token) (round x))
      (ends : (x : X) → Keeps x → AllEnds (NextKeeps Keeps) (round x)) where
    pub loop-decided : {x : X} {d : Disk} {es : List Event} {commits : Commits} {out : Result R Stop} (more : List (List Edit)) (files : Files)
        (owners : Locks) → Keeps x → Stands actor token d files owners
        → Honest d es → OthersAreLawful actor token d es → (all : PassesAll round x d es commits out) → AllAnswersAreDecided all
    loop-decided {x = x} {d = d} more files owners keeps s honest lawful (again {y = y} front rest first later is commits_is goes all) =
        let honest_so = subst (Honest d) is honest in
        let lawful_so = subst (OthersAreLawful actor token d) is lawful in
        let here = honest-front front rest d honest_so in
        let others = lawful_front (first_job actor token []) front rest d lawful_so in
        let one = play-passed actor token fits (round x) d front (record { accepted = first; pending = [] }) (Ok (Go y)) (queue later ++ more) files owners (each x keeps) s here others goes in
        let kept : Keeps y = passes-ends actor token fits (NextKeeps Keeps) (round x) d front (record { accepted = first; pending = [] }) (Go y) (ends x keeps) goes in
        let q = queue_of first ++ (queue later ++ more) in
        let whole : queue (record { accepted = first; pending = [] }) ++ (queue later ++ more) ≡ q = ap (λ (cs : List Commit). queue_of cs ++ (queue later ++ more)) (append-nil first) in
        let z = passed-as actor token d (queue (record { accepted = first; pending = [] }) ++ (queue later ++ more)) q (queue later ++ more)
        (length first) (length first) files owners front whole refl one in
        let now = after-piece actor token d q (queue later ++ more) files owners front (z.leaves tt) in (
          play-decided (round x) d front (record { accepted = first; pending = [] }) (Ok (Go y)) (queue later ++ more) files owners (each x keeps) s here others goes,
          loop-decided more (run_files actor token d q files front) (run_locks actor token d owners front) kept now
              (honest-back front rest d honest_so) (lawful-back actor token front rest d lawful_so) all,
        )
    loop-decided {x = x} {d = d} {es = es} {commits = commits} more files owners keeps s honest lawful (last {r = r} goes) =
        play-decided (round x) d es commits (Ok (Last r)) more files owners (each x keeps) s honest lawful goes
    loop-decided {x = x} {d = d} {es = es} {commits = commits} more files owners keeps s honest lawful (cut {cause = cause} goes) =
        play-decided (round x) d es commits (Err cause) more files owners (each x keeps) s honest lawful goes

-- a disk that a run begins on stands as it is settled
begins : (actor : List ℕ) (token : ℕ) (d : Disk) (es : List Event) → MayRun actor token d es → Stands actor token d (settled_files actor d) (settled_locks actor d)
begins actor token d es may = record { settles = λ n. refl; locked = λ n. refl; sound = may.sound; fresh = may.fresh }

pub done_is_decided : DoneIsDecided
done_is_decided p actor token d es commits out each may passes =
    play-decided actor token may.fits p d es commits out [] (settled_files actor d) (settled_locks actor d) each (begins actor token d es may) may.honest may.lawful passes

-- rounds, with events after them
pub run-decided : {X R : Type 0} (round : X → Play (Next X R)) (x : X) (actor : List ℕ) (token : ℕ) (d : Disk) (front rest : List Event) (commits : Commits) (out : Result R Stop) (Keeps : X → Type 0)
    → ((y : X) → Keeps y → EachCommit (IsBy actor token) (round y)) → ((y : X) → Keeps y → AllEnds (NextKeeps Keeps) (round y)) → Keeps x
    → MayRun actor token d (front ++ rest) → (all : PassesAll round x d front commits out) → AllAnswersAreDecided all
run-decided round x actor token d front rest commits out Keeps each ends keeps may all =
    loop-decided actor token may.fits round Keeps each ends [] (settled_files actor d) (settled_locks actor d) keeps (begins actor token d (front ++ rest) may)
    (honest-front front rest d may.honest) (lawful_front (first_job actor token []) front rest d may.lawful) all
