-- Each output of a run's replies stands after the decision of its commit.
use Rattle.std.specs.Prelude.{List}
use Rattle.std.specs.declared.option.Option.{Option}
use Rattle.host_port.specs.declared.event.Event.{Event}
use Rattle.host_port.specs.Disk.{Disk}
use Rattle.play_safety.specs.Replies.{AllRepliesFollow}
use Rattle.session_state.specs.declared.status.Status.{Status}
use Rattle.mailx_top.specs.declared.environment.Environment.{Environment}
use Rattle.mailx_top.specs.Words.{Start}
use Rattle.mailx_top.specs.Crash.{IsSafe}

-- So it is of the commits of each run; what its ending adds follows them too.
abbrev pub RunsReplyAfter : Type 0
RunsReplyAfter = (start : Option Start) (env : Environment) (s : Status) (d : Disk) (es : List Event) (safe : IsSafe start env s d es) → AllRepliesFollow safe.plays safe.rest
