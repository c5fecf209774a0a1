-- What holds of whole runs of the program, whoever acts beside them.
use Rattle.std.specs.Prelude.{◌≡◌, List, ◌++◌}
use Rattle.std.specs.declared.option.Option.{Option}
use Rattle.std.specs.declared.result.Result.{Result}
use Rattle.host_port.specs.declared.event.Event.{Event}
use Rattle.host_port.specs.Disk.{Disk}
use Rattle.host_port.specs.Own.{own, OnlyLooks}
use Rattle.host_port.specs.Ran.{Honest}
use Rattle.core_steps.specs.declared.actor.Actor.{Actor}
use Rattle.session_play.specs.Causes.{commits_in}
use Rattle.session_play.specs.declared.stop.Stop.{Stop}
use Rattle.play_safety.specs.Passes.{Commits, PassesAll}
use Rattle.session_state.specs.declared.status.Status.{Status}
use Rattle.mailx_top.specs.declared.environment.Environment.{Environment}
use Rattle.mailx_top.specs.Words.{Start, start_of}
use Rattle.mailx_top.specs.Meaning.{Recovering, round, actor_in}
use Rattle.mailx_top.specs.Runs.{IsRun}
use Rattle.mailx_top.specs.Crash.{IsSafe}
use Rattle.run_laws.specs.Brackets.{AllShowSteps}
use Rattle.run_laws.specs.Programs.{AllSpareRecords, asked_in, IsProgramOf}
use Rattle.run_laws.specs.Fronts.{MayRunUpTo, IsSafeUpTo}

-- A run changes the disk by the steps of one core actor alone: each of its commits and recoveries is such steps, and all other own events only look.
abbrev pub RunsShowSteps : Type 0
RunsShowSteps = (start : Option Start) (env : Environment) (status : Status) (d : Disk) (es : List Event) (safe : IsSafe start env status d es)
    → Honest d es → AllShowSteps safe.plays × OnlyLooks (own safe.rest)

-- what a run commits and recovers is a program of the core, beside any actors whose record names it leaves alone
abbrev pub RunsArePrograms : Type 0
RunsArePrograms = (start : Option Start) (env : Environment) (status : Status) (es : List Event) (run : IsRun start env status es) (actors : List Actor)
    → AllSpareRecords actors run.whole.plays
    → IsProgramOf actors (record { name = actor_in env; token = env.token }) (asked_in run.whole.plays) (commits_in run.whole.plays)

-- These are the commits of a run: its events carry out its rounds, in which these are accepted or under way, and what follows only looks.
pub record AreItsOwn (start : Option Start) (env : Environment) (d : Disk) (es : List Event) (commits : Commits) : Type 0 where
  pub out : Result Status Stop
  pub played : List Event
  pub looked : List Event
  pub is : es ≡ played ++ looked
  pub plays : PassesAll (round env) (Recovering (start_of start env.pairs)) d played commits out
  pub looks : OnlyLooks (own looked)

-- Up to a moment others did what is lawful. Then the crash promise, for the run's own commits, stands of all that happened up to there, whatever they did
-- after it.
abbrev pub RunPromisesStand : Type 0
RunPromisesStand = (start : Option Start) (env : Environment) (status : Status) (d : Disk) (front rest : List Event)
    → IsRun start env status (own (front ++ rest)) → MayRunUpTo (actor_in env) env.token d front rest
    → (commits : Commits) × AreItsOwn start env d (front ++ rest) commits × IsSafeUpTo (actor_in env) env.token d commits front
