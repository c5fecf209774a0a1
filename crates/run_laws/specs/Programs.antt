-- What a run commits and recovers is a program of the core: so whatever holds of many such programs at once holds of runs.
use Rattle.std.proofs.Common.{inl, inr}
use Rattle.std.specs.Prelude.{◌≡◌, ℕ, false, List, [], ◌∷◌, ◌++◌, map}
use Rattle.std.specs.List.{list_any}
use Rattle.std.specs.declared.option.Option.TheVariants.{Some}
use Rattle.std.specs.declared.result.Result.{Result}
use Rattle.std.specs.declared.result.Result.TheVariants.{Ok, Err}
use Rattle.host_port.specs.declared.event.Event.{Event}
use Rattle.host_port.specs.declared.event.Part.{Part}
use Rattle.host_port.specs.Disk.{Disk}
use Rattle.host_port.specs.Ends.{cut_short}
use Rattle.commit_machine.specs.Edits.{first_names}
use Rattle.commit_machine.specs.Settled.{Mem}
use Rattle.commit_driver.specs.Did.{LoadsFit}
use Rattle.core_steps.specs.declared.actor.Actor.{Actor}
use Rattle.core_steps.specs.declared.actor.Task.{Task}
use Rattle.core_steps.specs.declared.actor.Task.TheVariants as task
use Rattle.core_steps.specs.Shown.{with_base}
use Rattle.core_steps.specs.Turns.{is_any_record_name}
use Rattle.core_steps.specs.Programs.{IsProgram}
use Rattle.session_play.specs.declared.stop.Stop.{Stop}
use Rattle.session_play.specs.Causes.{commits_of}
use Rattle.session_play.specs.Committing.{Commit}
use Rattle.session_play.specs.Play.{Act, Changes, Play, Ret, Ask, Goes, Next, Go, Last, Loop, again, last, cut}
use Rattle.play_safety.specs.Safe.{IsBy, EachCommit}

-- no file of a commit has a name of a record of one of these actors
abbrev pub SparesRecords : List Actor → Act → Type 0
SparesRecords actors (Changes c) = list_any (is_any_record_name actors) (first_names c.changes) ≡ false
SparesRecords actors act = Unit {0}

-- so it is of each act in the events of a play
abbrev pub EachSparesRecords : List Actor → {R : Type 0} (p : Play R) (es : List Event) (out : Result R Stop) → Goes p es out → Type 0
EachSparesRecords actors (Ret r) es out goes = Unit {0}
EachSparesRecords actors (Ask act go) es out (inl (answer, front, rest, is, did, goes)) = SparesRecords actors act × EachSparesRecords actors (go answer) rest out goes
EachSparesRecords actors (Ask act go) es out (inr stopped) = SparesRecords actors act

-- and in all rounds
abbrev pub AllSpareRecords : List Actor → {X R : Type 0} {round : X → Play (Next X R)} {x : X} {es : List Event} {out : Result R Stop} → Loop round x es out → Type 0
AllSpareRecords actors {round = round} (again {x = x} {y = y} front rest is goes more) = EachSparesRecords actors (round x) front (Ok (Go y)) goes × AllSpareRecords actors more
AllSpareRecords actors {round = round} (last {x = x} {es = es} {r = r} goes) = EachSparesRecords actors (round x) es (Ok (Last r)) goes
AllSpareRecords actors {round = round} (cut {x = x} {es = es} {cause = cause} goes) = EachSparesRecords actors (round x) es (Err cause) goes

-- the commits that an act asks for
abbrev pub asked_by : Act → List Commit
asked_by (Changes c) = c ∷ []
asked_by act = []

-- those that a play asked for, to its end or to where it was cut off
abbrev pub asked_of : {R : Type 0} (p : Play R) (es : List Event) (out : Result R Stop) → Goes p es out → List Commit
asked_of (Ret r) es out goes = []
asked_of (Ask act go) es out (inl (answer, front, rest, is, did, goes)) = asked_by act ++ asked_of (go answer) rest out goes
asked_of (Ask act go) es out (inr stopped) = asked_by act

-- and all rounds
abbrev pub asked_in : {X R : Type 0} {round : X → Play (Next X R)} {x : X} {es : List Event} {out : Result R Stop} → Loop round x es out → List Commit
asked_in {round = round} (again {x = x} {y = y} front rest is goes more) = asked_of (round x) front (Ok (Go y)) goes ++ asked_in more
asked_in {round = round} (last {x = x} {es = es} {r = r} goes) = asked_of (round x) es (Ok (Last r)) goes
asked_in {round = round} (cut {x = x} {es = es} {cause = cause} goes) = asked_of (round x) es (Err cause) goes

-- a recovery, or one of these commits
abbrev pub IsAsked : List Commit → Task → Type 0
IsAsked cs task.Recover = Unit {0}
IsAsked cs (task.Commit changes moment) = (c : Commit) × Mem c cs × (changes ≡ map (with_base c.base) c.changes)

-- These events are, one by one, the calls of a program of this actor, each for a recovery or for one of these commits, and no load among them saw
-- more than a load takes.
pub record IsProgramOf (actors : List Actor) (a : Actor) (cs : List Commit) (es : List Event) : Type 0 where
  pub calls : List (Task × Event)
  pub events : map (λ x. x.1) calls ≡ es
  pub program : IsProgram actors (Some a) calls
  pub asked : (x : Task × Event) → Mem x calls → IsAsked cs x.0
  pub fit : LoadsFit es

-- The own events of a play's commits and recoveries, all of one actor and token, are the calls of a program for the commits that it asked for, beside
-- any actors.
abbrev pub PlaysArePrograms : Type 0
PlaysArePrograms = (p : Play (Unit {0})) (es : List Event) (out : Result Unit Stop) (goes : Goes p es out) (name : List ℕ) (token : ℕ) (actors : List Actor)
    → EachCommit (IsBy name token) p → EachSparesRecords actors p es out goes
    → IsProgramOf actors (record { name = name; token = token }) (asked_of p es out goes) (commits_of p es out goes)

-- What is stopped between its calls, or inside one of which a part is done, is the calls of a program too.
abbrev pub StoppedArePrograms : Type 0
StoppedArePrograms = (actors : List Actor) (a : Actor) (cs : List Commit) (front rest : List Event) (e : Event) → IsProgramOf actors a cs (front ++ e ∷ rest)
    → IsProgramOf actors a cs front × ((d : Disk) (part : Part) → IsProgramOf actors a cs (front ++ cut_short d e part ∷ []))
