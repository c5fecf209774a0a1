-- A commit of a run is decided only if its changes can be made; so a file that it rewrites begins with its base.
use Rattle.std.specs.Prelude.{List}
use Rattle.std.specs.declared.option.Option.{Option}
use Rattle.host_port.specs.declared.event.Event.{Event}
use Rattle.host_port.specs.Disk.{Disk}
use Rattle.play_safety.specs.Safe.{MayRun}
use Rattle.play_safety.specs.Fitting.{CommitsFit, RewritesFit}
use Rattle.session_state.specs.declared.status.Status.{Status}
use Rattle.mailx_top.specs.declared.environment.Environment.{Environment}
use Rattle.mailx_top.specs.Words.{Start}
use Rattle.mailx_top.specs.Meaning.{actor_in}
use Rattle.mailx_top.specs.Crash.{IsSafe}

-- so it is of the commits of each run, from a disk on which it may run
abbrev pub RunsFit : Type 0
RunsFit = (start : Option Start) (env : Environment) (s : Status) (d : Disk) (es : List Event) (safe : IsSafe start env s d es)
    → MayRun (actor_in env) env.token d es → CommitsFit (actor_in env) env.token d es safe.commits × RewritesFit (actor_in env) env.token d es safe.commits
