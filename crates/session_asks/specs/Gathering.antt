-- What stands in the way of a change that a command gathers.
use Rattle.std.specs.Prelude.{ℕ, List, if◌then◌else◌}
use Rattle.std.specs.Option.{option_or}
use Rattle.std.specs.declared.option.Option.{Option}
use Rattle.std.specs.declared.option.Option.TheVariants.{Some, None}
use Rattle.quit_rules.specs.Gathering.{lacks_place}
use Rattle.session_play.specs.Steps.{After, On, Refused}
use Rattle.command_desk.specs.Faults.{too_many_files}
use Rattle.session_state.specs.declared.state.SessionState.{SessionState}
use Rattle.session_state.specs.declared.status.Status.{Status}
use Rattle.session_state.specs.Saving.{name_fault}

-- the line of what stands in the way of what is to be put into the file of this name: what is wrong with the name, or else as many others as may be
abbrev pub gather_fault : SessionState → List ℕ → Option (List ℕ)
gather_fault s name = option_or (name_fault s name) (if lacks_place s.desk.gathered name then Some too_many_files else None)

-- it is gathered with what else the command changes, unless something stands in its way
abbrev pub gathers : SessionState → Option (List ℕ) → After SessionState Status
gathers s (Some line) = Refused line
gathers s None = On s
