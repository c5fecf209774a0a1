-- What a run leaves on the disk, whatever others lawfully do meanwhile and wherever it stops.
use Rattle.std.specs.Prelude.{◌≡◌, List, ◌++◌}
use Rattle.std.specs.declared.option.Option.{Option}
use Rattle.std.specs.declared.result.Result.{Result}
use Rattle.host_port.specs.declared.event.Event.{Event}
use Rattle.host_port.specs.Disk.{Disk}
use Rattle.host_port.specs.Own.{own}
use Rattle.session_play.specs.declared.stop.Stop.{Stop}
use Rattle.play_safety.specs.Passes.{Commits, PassesAll}
use Rattle.play_safety.specs.Safe.{IsCrashSafe, AllAnswersAreDecided}
use Rattle.session_state.specs.declared.status.Status.{Status}
use Rattle.mailx_top.specs.declared.environment.Environment.{Environment}
use Rattle.mailx_top.specs.Words.{Start, may_say, start_of}
use Rattle.mailx_top.specs.Meaning.{Recovering, round, actor_in, actor_said}
use Rattle.mailx_top.specs.Runs.{Ending}

-- The events of a run, steps of others among them, carry out its meaning, and then what its ending adds. The commits that are accepted are read
-- off the same stretches, and with them the run is crash safe. Each commit that was answered as done is decided in its own stretch, before anything
-- is printed of it.
pub record IsSafe (start : Option Start) (env : Environment) (s : Status) (d : Disk) (es : List Event) : Type 0 where
  pub out : Result Status Stop
  pub front : List Event
  pub rest : List Event
  pub commits : Commits
  pub is : es ≡ front ++ rest
  pub plays : PassesAll (round env) (Recovering (start_of start env.pairs)) d front commits out
  pub ending : Ending (actor_said env) (may_say start) s out (own rest)
  pub safe : IsCrashSafe (actor_in env) env.token d es commits out
  pub answered : AllAnswersAreDecided plays
