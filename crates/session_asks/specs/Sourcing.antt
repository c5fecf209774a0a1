-- A file whose lines a command brings.
use Rattle.std.specs.Prelude.{nat_lt, ℕ, List, if◌then◌else◌}
use Rattle.std.specs.declared.option.Option.{Option}
use Rattle.std.specs.declared.option.Option.TheVariants.{Some, None}
use Rattle.mailx_vars.specs.Names.{is_short_name}
use Rattle.session_play.specs.declared.act.Found.{Found}
use Rattle.session_play.specs.declared.act.Found.TheVariants as found
use Rattle.session_play.specs.Play.{Play, Ret, Ask, Try}
use Rattle.session_play.specs.Steps.{After, On, Refused}
use Rattle.command_desk.specs.Faults.{bad_name, no_such_file, too_large, cannot_be_read, sources_too_deep}
use Rattle.session_state.specs.declared.kinds.FrameKind.TheVariants as kinds
use Rattle.session_state.specs.declared.state.SessionState.{SessionState}
use Rattle.session_state.specs.declared.status.Status.{Status}
use Rattle.session_state.specs.Placing.{placed}
use Rattle.session_state.specs.Bringing.{source_limit, sources, with_lines}

-- the line of what stands in the way of a load: what is wrong with the name, or too many open files
abbrev pub source_fault : SessionState → List ℕ → Option (List ℕ)
source_fault s name =
    if is_short_name (placed s.here name) then (if nat_lt (sources s.frames) source_limit then None else Some sources_too_deep)
    else Some (bad_name name)

-- what follows the load of a file that is said by this name, whose lines are brought; a lock on it is no matter
abbrev pub after_load : SessionState → List ℕ → Option Found → After SessionState Status
after_load s name None = Refused (cannot_be_read name)
after_load s name (Some (found.TooLarge n)) = Refused (too_large name)
after_load s name (Some (found.Bytes None held)) = Refused (no_such_file name)
after_load s name (Some (found.Bytes (Some text) held)) = On (with_lines kinds.Source s text)

-- a file is loaded and its lines are brought, unless something stands in the way
abbrev pub sourced : SessionState → List ℕ → Option (List ℕ) → Play (After SessionState Status)
sourced s name (Some line) = Ret (Refused line)
sourced s name None = Ask (Try (placed s.here name)) (λ a. Ret (after_load s name a))
