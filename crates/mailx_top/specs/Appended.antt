-- What others append meanwhile follows the messages that a run rewrites.
use Rattle.std.specs.Prelude.{List}
use Rattle.std.specs.declared.option.Option.{Option}
use Rattle.host_port.specs.declared.event.Event.{Event}
use Rattle.host_port.specs.Disk.{Disk}
use Rattle.play_safety.specs.Appended.{AreFollowed}
use Rattle.session_state.specs.declared.status.Status.{Status}
use Rattle.mailx_top.specs.declared.environment.Environment.{Environment}
use Rattle.mailx_top.specs.Words.{Start}
use Rattle.mailx_top.specs.Meaning.{actor_in}
use Rattle.mailx_top.specs.Crash.{IsSafe}

-- so it is of the commits of each run, in the files that it leaves
abbrev pub RunsKeepAppended : Type 0
RunsKeepAppended = (start : Option Start) (env : Environment) (s : Status) (d : Disk) (es : List Event) (safe : IsSafe start env s d es)
    → AreFollowed (actor_in env) env.token d es safe.commits
