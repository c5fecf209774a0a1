-- A run changes the disk by the steps of one core actor alone.
use Rattle.std.proofs.Common.{inl, inr}
use Rattle.std.specs.Prelude.{◌≡◌, ◌⊎◌, List, []}
use Rattle.std.specs.declared.result.Result.{Result}
use Rattle.std.specs.declared.result.Result.TheVariants.{Ok, Err}
use Rattle.host_port.specs.declared.event.Event.{Event}
use Rattle.host_port.specs.Disk.{Disk, disk}
use Rattle.host_port.specs.Own.{own, OnlyLooks}
use Rattle.host_port.specs.Ran.{Honest}
use Rattle.commit_machine.specs.Jobs.{Ending}
use Rattle.core_steps.specs.declared.actor.Task.TheVariants as task
use Rattle.core_steps.specs.Shown.{IsBracketOf}
use Rattle.core_steps.specs.Commits.{IsActorOf}
use Rattle.session_play.specs.declared.stop.Stop.{Stop}
use Rattle.session_play.specs.Play.{Act, Changes, Recover, Play, Ret, Ask, Next, Go, Last}
use Rattle.play_safety.specs.Passes.{Commits, Passes, PassesAll, again, last, cut}

-- The events of a commit or of a recovery are the steps of one actor that began with it, each on the disk that stands just before it, steps of others
-- done; or there are none. Those of any other act only look.
abbrev pub AreStepsFor : Act → Disk → List Event → Type 0
AreStepsFor (Changes c) d es = IsActorOf c.actor c.token c.changes c.base d es
AreStepsFor (Recover actor token) d es = (own es ≡ []) ⊎ ((end : Ending) × IsBracketOf (record { name = actor; token = token }) task.Recover d es end)
AreStepsFor act d es = OnlyLooks (own es)

-- so it is of each act of a play
abbrev pub EachShowsSteps : {R : Type 0} (p : Play R) (d : Disk) (es : List Event) (commits : Commits) (out : Result R Stop) → Passes p d es commits out → Type 0
EachShowsSteps (Ret r) d es commits out passes = own es ≡ []
EachShowsSteps (Ask act go) d es commits out (inl (answer, front, rest, later, is, did, commits_is, goes)) =
    AreStepsFor act d front × EachShowsSteps (go answer) (disk d front) rest later out goes
EachShowsSteps (Ask act go) d es commits out (inr stopped) = AreStepsFor act d es

-- and of all rounds
abbrev pub AllShowSteps : {X R : Type 0} {round : X → Play (Next X R)} {x : X} {d : Disk} {es : List Event} {commits : Commits} {out : Result R Stop}
    → PassesAll round x d es commits out → Type 0
AllShowSteps {round = round} (again {x = x} {y = y} {d = d} front rest first later is commits_is goes more) =
    EachShowsSteps (round x) d front (record { accepted = first; pending = [] }) (Ok (Go y)) goes × AllShowSteps more
AllShowSteps {round = round} (last {x = x} {d = d} {es = es} {commits = commits} {r = r} goes) = EachShowsSteps (round x) d es commits (Ok (Last r)) goes
AllShowSteps {round = round} (cut {x = x} {d = d} {es = es} {commits = commits} {cause = cause} goes) = EachShowsSteps (round x) d es commits (Err cause) goes

-- so it is in each trace of a play of which each event says what is so
abbrev pub PlaysShowSteps : Type 0
PlaysShowSteps = (p : Play (Unit {0})) (d : Disk) (es : List Event) (commits : Commits) (out : Result Unit Stop) (passes : Passes p d es commits out)
    → Honest d es → EachShowsSteps p d es commits out passes
