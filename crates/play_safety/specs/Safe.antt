-- What the traces of plays leave, whatever others lawfully do meanwhile and wherever a run stops.
use Rattle.std.proofs.Common.{inl, inr}
use Rattle.std.specs.Prelude.{◌≡◌, ◌<◌, ◌^◌, ℕ, Bool, true, false, List, [], ◌∷◌, ◌++◌, map, length}
use Rattle.std.specs.declared.option.Option.TheVariants.{None}
use Rattle.std.specs.declared.result.Result.{Result}
use Rattle.std.specs.declared.result.Result.TheVariants.{Ok, Err}
use Rattle.host_port.specs.declared.event.Event.{Event}
use Rattle.host_port.specs.declared.event.Event.TheVariants as event
use Rattle.host_port.specs.declared.event.Part.{Part}
use Rattle.host_port.specs.Disk.{Disk, disk}
use Rattle.host_port.specs.Ends.{stopped}
use Rattle.host_port.specs.Own.{own}
use Rattle.std.specs.List.{list_any}
use Rattle.host_port.specs.Ran.{Honest}
use Rattle.commit_machine.specs.Names.{is_record_name}
use Rattle.commit_machine.specs.Jobs.{Edit}
use Rattle.commit_machine.specs.Edits.{edits_for}
use Rattle.commit_machine.specs.Lawful.{IsSound, IsFresh, OthersAreLawful, standing}
use Rattle.commit_machine.specs.Due.{settled_files}
use Rattle.commit_machine.specs.Laws.{in_flight, decisions}
use Rattle.commit_machine.specs.Rows.{first_job, run_files, IsRunDue}
use Rattle.session_play.specs.declared.stop.Stop.{Stop}
use Rattle.session_play.specs.declared.stop.Stop.TheVariants as stop
use Rattle.session_play.specs.Committing.{Commit, wanted_of}
use Rattle.session_play.specs.declared.changing.Attempt.{Attempt}
use Rattle.session_play.specs.declared.changing.Attempt.TheVariants.{Made}
use Rattle.session_play.specs.declared.changing.Committed.TheVariants as committed
use Rattle.session_play.specs.Play.{Act, Answer, Changes, Recover, Play, Ret, Ask, Goes, Next, Go, Last}
use Rattle.play_safety.specs.Passes.{decided_in, Commits, Passes, PassesAll, again, last, cut}

-- a commit of this actor under this token
pub record IsBy (actor : List ℕ) (token : ℕ) (c : Commit) : Type 0 where
  pub actor_is : c.actor ≡ actor
  pub token_is : c.token ≡ token

-- the event of an output
abbrev pub is_output : Event → Bool
is_output (event.Out bytes failed) = true
is_output e = false

-- each commit of an act is such; a recovery counts as a commit without changes
abbrev pub OfCommit : (Commit → Type 0) → Act → Type 0
OfCommit P (Changes c) = P c
OfCommit P (Recover actor token) = P (wanted_of actor token [] [])
OfCommit P act = Unit {0}

-- each commit and each recovery of a play is such
abbrev pub EachCommit : {R : Type 0} → (Commit → Type 0) → Play R → Type 0
EachCommit P (Ret r) = Unit {0}
EachCommit P (Ask act go) = OfCommit P act × ((answer : Answer act) → EachCommit P (go answer))

-- the next state keeps what its states keep
abbrev pub NextKeeps : {X R : Type 0} → (X → Type 0) → Next X R → Type 0
NextKeeps Keeps (Go x) = Keeps x
NextKeeps Keeps (Last r) = Unit {0}

-- a run begins on a disk that is sound and carries nothing of its token, its events say what is so, and others do only what is lawful
pub record MayRun (actor : List ℕ) (token : ℕ) (d : Disk) (es : List Event) : Type 0 where
  pub fits : token < 2 ^ 64
  pub fresh : IsFresh actor token d
  pub sound : IsSound actor d
  pub honest : Honest d es
  pub lawful : OthersAreLawful actor token d es

-- the edits of commits, in order
abbrev pub queue_of : List Commit → List (List Edit)
queue_of cs = map (λ c. edits_for c.changes c.base) cs

-- The edits of what was accepted. After them stand those of the commit that was under way when a fault cut the run off: only a decision that a
-- stop catches in flight can take them.
abbrev pub queue : Commits → List (List Edit)
queue commits = queue_of (commits.accepted ++ commits.pending)

-- no fault of the disk cut the run off
abbrev pub IsCalm : {R : Type 0} → Result R Stop → Type 0
IsCalm (Err stop.Disk) = ⊥
IsCalm out = Unit {0}

-- At every moment, and at every image of a stop, the settled files are those that the accepted commits, each from its decision on, and others
-- give, the settled locks are those of others, and the disk is sound. As many decisions were passed as commits are accepted. If no fault of
-- the disk cut the run off nothing carries the token in the end, and if no record stands then, the files themselves are these.
pub record IsCrashSafe {R : Type 0} (actor : List ℕ) (token : ℕ) (d : Disk) (es : List Event) (commits : Commits) (out : Result R Stop) : Type 0 where
  pub moments : (front rest : List Event) → es ≡ front ++ rest → IsRunDue actor token d (queue commits) front (disk d front)
  pub stops : (front rest : List Event) (e : Event) (part : Part) → es ≡ front ++ e ∷ rest
      → IsRunDue actor token d (queue commits) (front ++ in_flight (disk d front) e part) (stopped (disk d front) e part)
  pub decided : decisions (first_job actor token []) d 0 es ≡ length commits.accepted
  pub nothing_left : IsCalm out → IsFresh actor token (disk d es)
  pub files : standing actor (disk d es) ≡ None → (n : List ℕ) → is_record_name actor n ≡ false
      → (disk d es).files n ≡ run_files actor token d (queue commits) (settled_files actor d) es n

-- Plays whose commits and recoveries are all of this actor and token are safe.
abbrev pub PlaysAreSafe : Type 0
PlaysAreSafe = (p : Play (Unit {0})) (actor : List ℕ) (token : ℕ) (d : Disk) (es : List Event) (commits : Commits) (out : Result Unit Stop)
    → EachCommit (IsBy actor token) p → MayRun actor token d es → Passes p d es commits out
    → IsCrashSafe actor token d es commits out

-- Own events that carry out a play are those of whole traces that do, in which the accepted commits can be read.
abbrev pub TracesAreRead : Type 0
TracesAreRead = (p : Play (Unit {0})) (d : Disk) (es : List Event) (out : Result Unit Stop) → Goes p (own es) out → (commits : Commits) × Passes p d es commits out

-- A commit that was answered as done is decided in these events, and they hold no output; without a change there is nothing to decide. One that
-- was refused isn't decided in them. A recovery decides nothing.
abbrev pub IsDecidedAs : Commit → Attempt → Disk → List Event → Type 0
IsDecidedAs c (Made committed.Done) d es = 0 < length c.changes → (decided_in c d es ≡ 1) × (list_any is_output es ≡ false)
IsDecidedAs c refused d es = decided_in c d es ≡ 0

abbrev pub OfAnswer : (act : Act) → Answer act → Disk → List Event → Type 0
OfAnswer (Changes c) a d es = IsDecidedAs c a d es
OfAnswer act a d es = Unit {0}

-- Each commit of a play that was answered as done is decided in its own stretch, which holds no output, so that whatever is printed after its
-- answer is printed after its decision; and one that was refused isn't decided in its stretch, so that it changes no settled file.
abbrev pub AnswersAreDecided : {R : Type 0} (p : Play R) (d : Disk) (es : List Event) (commits : Commits) (out : Result R Stop) → Passes p d es commits out → Type 0
AnswersAreDecided (Ret r) d es commits out passes = Unit {0}
AnswersAreDecided (Ask act go) d es commits out (inl (answer, front, rest, later, is, did, commits_is, goes)) =
    OfAnswer act answer d front × AnswersAreDecided (go answer) (disk d front) rest later out goes
AnswersAreDecided (Ask act go) d es commits out (inr stopped) = Unit {0}

-- answers are decided in all rounds of a loop
abbrev pub AllAnswersAreDecided : {X R : Type 0} {round : X → Play (Next X R)} {x : X} {d : Disk} {es : List Event} {commits : Commits} {out : Result R Stop}
    → PassesAll round x d es commits out → Type 0
AllAnswersAreDecided {round = round} (again {x = x} {y = y} {d = d} front rest first later is commits_is goes more) =
    AnswersAreDecided (round x) d front (record { accepted = first; pending = [] }) (Ok (Go y)) goes × AllAnswersAreDecided more
AllAnswersAreDecided {round = round} (last {x = x} {d = d} {es = es} {commits = commits} {r = r} goes) = AnswersAreDecided (round x) d es commits (Ok (Last r)) goes
AllAnswersAreDecided {round = round} (cut {x = x} {d = d} {es = es} {commits = commits} {cause = cause} goes) = AnswersAreDecided (round x) d es commits (Err cause) goes

-- so it is in the traces of plays whose commits are all of one actor and token
abbrev pub DoneIsDecided : Type 0
DoneIsDecided = (p : Play (Unit {0})) (actor : List ℕ) (token : ℕ) (d : Disk) (es : List Event) (commits : Commits) (out : Result Unit Stop)
    → EachCommit (IsBy actor token) p → MayRun actor token d es → (passes : Passes p d es commits out) → AnswersAreDecided p d es commits out passes
