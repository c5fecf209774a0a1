-- How runs end.
use Rattle.std.specs.Prelude.{ℕ}
use Rattle.session_state.specs.declared.status.Status.{Status}
use Rattle.session_state.specs.declared.status.Status.TheVariants as status

-- the exit status of the program
abbrev pub status_number : Status → ℕ
status_number status.Done = 0
status_number status.NoMail = 1
status_number status.Usage = 2
status_number status.InputFault = 3
status_number status.OutputFault = 4
status_number status.DiskFault = 5
status_number (status.NotSent n) = 6
status_number status.Refused = 7
status_number status.Memory = 8
status_number status.InputLimit = 9
status_number status.NoFolder = 10
status_number status.BadRecord = 11

-- a run ends so that isn't cut off, and whose words aren't refused
abbrev pub IsEnd : Status → Type 0
IsEnd status.Done = Unit {0}
IsEnd status.NoMail = Unit {0}
IsEnd (status.NotSent n) = Unit {0}
IsEnd status.Refused = Unit {0}
IsEnd status.NoFolder = Unit {0}
IsEnd status.BadRecord = Unit {0}
IsEnd s = ⊥

-- a line of a session ends the run so: it is done, a draft wasn't sent, or its record or dead letter was refused, or what stands as the record of
-- commits is none
abbrev pub IsLineEnd : Status → Type 0
IsLineEnd status.Done = Unit {0}
IsLineEnd (status.NotSent n) = Unit {0}
IsLineEnd status.Refused = Unit {0}
IsLineEnd status.BadRecord = Unit {0}
IsLineEnd s = ⊥
