-- Each output of a reply stands after the decision of its commit.
use Rattle.std.proofs.Common.{inl, inr}
use Rattle.std.specs.Prelude.{◌≡◌, ◌<◌, ℕ, Bool, true, List, [], ◌∷◌, ◌++◌, length}
use Rattle.std.specs.declared.result.Result.{Result}
use Rattle.std.specs.declared.result.Result.TheVariants.{Ok, Err}
use Rattle.host_port.specs.declared.event.Event.{Event}
use Rattle.host_port.specs.declared.event.Event.TheVariants.{Out}
use Rattle.host_port.specs.Disk.{Disk, disk}
use Rattle.commit_machine.specs.Due.{is_decision}
use Rattle.session_play.specs.declared.stop.Stop.{Stop}
use Rattle.session_play.specs.Committing.{Commit}
use Rattle.session_play.specs.declared.changing.Attempt.{Attempt}
use Rattle.session_play.specs.declared.changing.Attempt.TheVariants.{Made}
use Rattle.session_play.specs.declared.changing.Committed.TheVariants as committed
use Rattle.session_play.specs.Play.{Act, Answer, Changes, Play, Ret, Ask, Next, Go, Last}
use Rattle.play_safety.specs.Passes.{job_of, Commits, Passes, PassesAll, again, last, cut}
use Rattle.play_safety.specs.Safe.{IsBy, EachCommit, MayRun}

-- The decision of a commit is one of the commit's own events, and stands in front of what comes after these: own and all begin alike.
pub record IsDecidedIn (c : Commit) (d : Disk) (own all : List Event) : Type 0 where
  pub front : List Event
  pub decision : Event
  pub rest_of_own : List Event
  pub rest_of_all : List Event
  pub own_is : own ≡ front ++ decision ∷ rest_of_own
  pub all_is : all ≡ front ++ decision ∷ rest_of_all
  pub decides : is_decision (job_of c) decision (disk d front) ≡ true

-- Of a commit with changes that is answered as done: before each output, in its own events and in the later ones, stands its decision.
abbrev pub IsSaidAfter : Commit → Attempt → Disk → List Event → List Event → Type 0
IsSaidAfter c (Made committed.Done) d own later =
    0 < length c.changes → (before rest : List Event) (bytes : List ℕ) (failed : Bool) → own ++ later ≡ before ++ Out bytes failed ∷ rest → IsDecidedIn c d own before
IsSaidAfter c refused d own later = Unit {0}

abbrev pub OfReply : (act : Act) → Answer act → Disk → List Event → List Event → Type 0
OfReply (Changes c) a d own later = IsSaidAfter c a d own later
OfReply act a d own later = Unit {0}

-- so it is of each commit of a play, which later events may follow
abbrev pub RepliesFollow : {R : Type 0} (p : Play R) (d : Disk) (es : List Event) (commits : Commits) (out : Result R Stop) → Passes p d es commits out → List Event → Type 0
RepliesFollow (Ret r) d es commits out passes later = Unit {0}
RepliesFollow (Ask act go) d es commits out (inl (answer, front, rest, more, is, did, commits_is, goes)) later =
    OfReply act answer d front (rest ++ later) × RepliesFollow (go answer) (disk d front) rest more out goes later
RepliesFollow (Ask act go) d es commits out (inr stopped) later = Unit {0}

-- and of each commit of all rounds of a loop
abbrev pub AllRepliesFollow : {X R : Type 0} {round : X → Play (Next X R)} {x : X} {d : Disk} {es : List Event} {commits : Commits} {out : Result R Stop}
    → PassesAll round x d es commits out → List Event → Type 0
AllRepliesFollow {round = round} (again {x = x} {y = y} {d = d} front rest first more is commits_is goes all) later =
    RepliesFollow (round x) d front (record { accepted = first; pending = [] }) (Ok (Go y)) goes (rest ++ later) × AllRepliesFollow all later
AllRepliesFollow {round = round} (last {x = x} {d = d} {es = es} {commits = commits} {r = r} goes) later = RepliesFollow (round x) d es commits (Ok (Last r)) goes later
AllRepliesFollow {round = round} (cut {x = x} {d = d} {es = es} {commits = commits} {cause = cause} goes) later = RepliesFollow (round x) d es commits (Err cause) goes later

-- so it is in the traces of plays whose commits are all of one actor and token
abbrev pub PlaysReplyAfter : Type 0
PlaysReplyAfter = (p : Play (Unit {0})) (actor : List ℕ) (token : ℕ) (d : Disk) (es : List Event) (commits : Commits) (out : Result Unit Stop)
    → EachCommit (IsBy actor token) p → MayRun actor token d es → (passes : Passes p d es commits out) → RepliesFollow p d es commits out passes []
