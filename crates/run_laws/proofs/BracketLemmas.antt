-- A run changes the disk by the steps of one core actor alone.
use Rattle.std.proofs.Common.{◌≡◌, ℕ, ℤ, List, [], ◌∷◌, map, refl, sym, subst, inl, inr}
use Rattle.std.specs.declared.result.Result.{Result}
use Rattle.std.specs.declared.result.Result.TheVariants.{Ok, Err}
use Rattle.host_port.specs.declared.event.Event.{Event}
use Rattle.host_port.specs.Disk.{Disk, disk}
use Rattle.host_port.specs.Own.{own, OnlyLooks}
use Rattle.host_port.specs.Ran.{Honest}
use Rattle.folder_change.specs.declared.change.Change.{Change}
use Rattle.commit_machine.specs.Jobs.{Ending, Refused, Failed, NoMemory, Before, Job}
use Rattle.commit_machine.specs.Jobs as jobs
use Rattle.commit_machine.specs.Machine.{Seizing, Ended}
use Rattle.commit_machine.specs.Goes.{Goes}
use Rattle.commit_machine.specs.Edits.{recovery_for}
use Rattle.commit_driver.specs.Did.{LoadsFit}
use Rattle.core_steps.specs.declared.actor.Task.TheVariants as task
use Rattle.core_steps.specs.Shown.{with_base}
use Rattle.core_steps.specs.Commits.{IsActorOf}
use Rattle.core_steps.proofs.Jobs.{job-same}
use Rattle.core_steps.proofs.OneActor.{brackets_are_steps}
use Rattle.folder_recovery.specs.Recovering.{found, GoesTo}
use Rattle.folder_commit.specs.declared.error.CommitError.{CommitError}
use Rattle.folder_commit.specs.declared.error.CommitError.TheVariants as error
use Rattle.folder_commit.specs.Commits.{IsCommit}
use Rattle.session_play.specs.declared.changing.Attempt.{Attempt}
use Rattle.session_play.specs.declared.changing.Attempt.TheVariants.{Made, Misnamed}
use Rattle.session_play.specs.declared.stop.Stop.{Stop}
use Rattle.session_play.specs.declared.stop.Stop.TheVariants as stop
use Rattle.session_play.specs.Committing.{Commit, answer_as}
use Rattle.session_play.specs.declared.recovering.RecoveryAnswer.{RecoveryAnswer}
use Rattle.session_play.specs.declared.recovering.RecoveryAnswer.TheVariants as recovery
use Rattle.session_play.specs.Recovering.{IsRecoveryOf, recovery_as}
use Rattle.session_play.specs.Play.{Act, Answer, Line, Say, Read, Try, Changes, Recover, Child, Editor, Now, Know, Play, Ret, Ask, Did, Partly, Next, Go, Last}
use Rattle.session_play.proofs.LooksLemmas.{neutral-did, neutral-part}
use Rattle.play_safety.specs.Passes.{Commits, Passes, PassesAll, again, last, cut}
use Rattle.play_safety.proofs.SafeLemmas.{honest-front}
use Rattle.commit_machine.proofs.runs.OneJob.{honest-back}
use Rattle.run_laws.specs.Brackets.{AreStepsFor, EachShowsSteps, AllShowSteps, PlaysShowSteps}

pub none_looks : (es : List Event) → own es ≡ [] → OnlyLooks (own es)
none_looks es is = subst OnlyLooks (sym is) tt

-- ---- one act
module _ (d : Disk) (es : List Event) (honest : Honest d es) where
  commit_steps : (actor : List ℕ) (token : ℕ) (changes : List Change) (base : List (List ℕ)) (result : Result Unit CommitError)
      → IsCommit actor token changes base (own es) result → IsActorOf actor token changes base d es
  commit_steps actor token [] base result is = inl is.0
  commit_steps actor token (c ∷ cs) base result (inl too_many) = inl too_many.1.0
  commit_steps actor token (c ∷ cs) base result (inr few) =
      let time : ℤ = few.1.0 in
      let commits = few.1.1 in
      let goes = subst (λ (j : Job). Goes j Seizing (own es) (Ended commits.end)) (sym (job-same base actor token time (c ∷ cs))) commits.goes in
      inr (time, commits.end, brackets_are_steps (record { name = actor; token = token }) (task.Commit (map (with_base base) (c ∷ cs)) time) d es commits.end goes honest commits.fit)

  attempt_steps : (c : Commit) (a : Attempt) → Did (Changes c) a (own es) → AreStepsFor (Changes c) d es
  attempt_steps c (Made a) did = commit_steps c.actor c.token c.changes c.base (answer_as a) did.1
  attempt_steps c (Misnamed name fault) did = inl did.1

  commit_part : (c : Commit) (cause : Stop) → Partly (Changes c) cause (own es) → AreStepsFor (Changes c) d es
  commit_part c stop.Disk part = commit_steps c.actor c.token c.changes c.base (Err (error.Disk part.1.0)) part.1.1
  commit_part c stop.Memory part = commit_steps c.actor c.token c.changes c.base (Err error.Memory) part.1
  commit_part c stop.Input never = absurd never
  commit_part c stop.Output never = absurd never
  commit_part c stop.TooMuch never = absurd never

  module _ (actor : List ℕ) (token : ℕ) where
    bracket_steps : (end : Ending) → LoadsFit (own es) → GoesTo (recovery_for actor token) (own es) end → AreStepsFor (Recover actor token) d es
    bracket_steps end fit goes = inr (end, brackets_are_steps (record { name = actor; token = token }) task.Recover d es end goes honest fit)

    recovery_steps : (answer : RecoveryAnswer) → IsRecoveryOf actor token (own es) (recovery_as answer) → AreStepsFor (Recover actor token) d es
    recovery_steps (recovery.Done f) h = bracket_steps (jobs.Recovered (found f)) h.0 h.1
    recovery_steps (recovery.Busy name) h = bracket_steps (Refused (jobs.Busy name)) h.0 h.1.1
    recovery_steps recovery.NotARecord h = bracket_steps (Refused jobs.NotARecord) h.0 h.1
    recovery_steps (recovery.TooLarge name n) h = bracket_steps (Refused (jobs.TooLarge name n)) h.0 h.1.1

    recovery_part : (cause : Stop) → Partly (Recover actor token) cause (own es) → AreStepsFor (Recover actor token) d es
    recovery_part stop.Disk h = bracket_steps (Failed Before) h.0 h.1
    recovery_part stop.Memory (fit, inl h) = bracket_steps NoMemory fit h
    recovery_part stop.Memory (fit, inr h) = bracket_steps (Refused jobs.NotARecord) fit h
    recovery_part stop.Input never = absurd never
    recovery_part stop.Output never = absurd never
    recovery_part stop.TooMuch never = absurd never

  act_steps : (act : Act) (a : Answer act) → Did act a (own es) → AreStepsFor act d es
  act_steps (Changes c) a did = attempt_steps c a did
  act_steps (Recover actor token) a did = recovery_steps actor token a did
  act_steps (Line i) a did = neutral-did (Line i) a (own es) refl did
  act_steps (Say bytes) a did = neutral-did (Say bytes) a (own es) refl did
  act_steps (Read name) a did = neutral-did (Read name) a (own es) refl did
  act_steps (Try name) a did = neutral-did (Try name) a (own es) refl did
  act_steps (Child program args input) a did = neutral-did (Child program args input) a (own es) refl did
  act_steps (Editor name shell command text) a did = neutral-did (Editor name shell command text) a (own es) refl did
  act_steps (Now tz) a did = neutral-did (Now tz) a (own es) refl did
  act_steps (Know q) a did = neutral-did (Know q) a (own es) refl did

  -- where nothing was done
  no_steps : (act : Act) → own es ≡ [] → AreStepsFor act d es
  no_steps (Changes c) none = inl none
  no_steps (Recover actor token) none = inl none
  no_steps (Line i) none = none_looks es none
  no_steps (Say bytes) none = none_looks es none
  no_steps (Read name) none = none_looks es none
  no_steps (Try name) none = none_looks es none
  no_steps (Child program args input) none = none_looks es none
  no_steps (Editor name shell command text) none = none_looks es none
  no_steps (Now tz) none = none_looks es none
  no_steps (Know q) none = none_looks es none

  part_steps : (act : Act) (cause : Stop) → Partly act cause (own es) → AreStepsFor act d es
  part_steps (Changes c) cause part = commit_part c cause part
  part_steps (Recover actor token) cause part = recovery_part actor token cause part
  part_steps (Line i) cause part = neutral-part (Line i) cause (own es) refl part
  part_steps (Say bytes) cause part = neutral-part (Say bytes) cause (own es) refl part
  part_steps (Read name) cause part = neutral-part (Read name) cause (own es) refl part
  part_steps (Try name) cause part = neutral-part (Try name) cause (own es) refl part
  part_steps (Child program args input) cause part = neutral-part (Child program args input) cause (own es) refl part
  part_steps (Editor name shell command text) cause part = neutral-part (Editor name shell command text) cause (own es) refl part
  part_steps (Now tz) cause part = neutral-part (Now tz) cause (own es) refl part
  part_steps (Know q) cause part = neutral-part (Know q) cause (own es) refl part

-- ---- plays and rounds
pub each_shows : {R : Type 0} (p : Play R) (d : Disk) (es : List Event) (commits : Commits) (out : Result R Stop) (passes : Passes p d es commits out)
    → Honest d es → EachShowsSteps p d es commits out passes
each_shows (Ret r) d es commits out passes honest = passes.0
each_shows (Ask act go) d es commits out (inl (answer, front, rest, later, is, did, commits_is, goes)) honest =
    let honest_so = subst (Honest d) is honest in (
      act_steps d front (honest-front front rest d honest_so) act answer did,
      each_shows (go answer) (disk d front) rest later out goes (honest-back front rest d honest_so),
    )
each_shows (Ask act go) d es commits out (inr (cause, is, commits_is, inl none)) honest = no_steps d es honest act none.1
each_shows (Ask act go) d es commits out (inr (cause, is, commits_is, inr part)) honest = part_steps d es honest act cause part

pub plays_show_steps : PlaysShowSteps
plays_show_steps p d es commits out passes honest = each_shows p d es commits out passes honest

pub all_show : {X R : Type 0} {round : X → Play (Next X R)} {x : X} {d : Disk} {es : List Event} {commits : Commits} {out : Result R Stop} (all : PassesAll round x d es commits out)
    → Honest d es → AllShowSteps all
all_show {round = round} {x = x} {d = d} (again {y = y} front rest first later is commits_is goes more) honest =
    let honest_so = subst (Honest d) is honest in (
      each_shows (round x) d front (record { accepted = first; pending = [] }) (Ok (Go y)) goes (honest-front front rest d honest_so),
      all_show more (honest-back front rest d honest_so),
    )
all_show {round = round} {x = x} {d = d} {es = es} {commits = commits} (last {r = r} goes) honest = each_shows (round x) d es commits (Ok (Last r)) goes honest
all_show {round = round} {x = x} {d = d} {es = es} {commits = commits} (cut {cause = cause} goes) honest = each_shows (round x) d es commits (Err cause) goes honest
