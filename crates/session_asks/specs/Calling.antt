-- A macro whose lines a command brings.
use Rattle.std.specs.Prelude.{nat_lt, ℕ, List, if◌then◌else◌}
use Rattle.session_play.specs.Steps.{After, On, Refused}
use Rattle.command_desk.specs.Faults.{calls_too_deep}
use Rattle.session_state.specs.declared.kinds.FrameKind.TheVariants as kinds
use Rattle.session_state.specs.declared.state.SessionState.{SessionState}
use Rattle.session_state.specs.declared.status.Status.{Status}
use Rattle.session_state.specs.Bringing.{call_limit, calls, with_lines}

-- the lines of a macro are brought, unless as many calls are open as may be
abbrev pub called : SessionState → List ℕ → After SessionState Status
called s text = if nat_lt (calls s.frames) call_limit then On (with_lines kinds.Call s text) else Refused calls_too_deep
