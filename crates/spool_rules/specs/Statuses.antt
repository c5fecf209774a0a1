-- How a call of the helper ends.
use Rattle.std.specs.Prelude.{ℕ, Bool, true, false}
use Rattle.std.specs.declared.result.Result.{Result}
use Rattle.std.specs.declared.result.Result.TheVariants.{Ok, Err}
use Rattle.spool_rules.specs.declared.port.Stop.{Stop}
use Rattle.spool_rules.specs.declared.port.Stop.TheVariants as stop
use Rattle.spool_rules.specs.declared.status.SpoolStatus.{SpoolStatus}
use Rattle.spool_rules.specs.declared.status.SpoolStatus.TheVariants as status

-- the number with which the program ends
abbrev pub number_of : SpoolStatus → ℕ
number_of status.Done = 0
number_of status.Standing = 1
number_of status.Usage = 2
number_of status.InputFault = 3
number_of status.DiskFault = 5
number_of status.Refused = 6
number_of status.NotCallers = 7
number_of status.Memory = 8

-- the status of an operation that was carried out or not, or ended before its end
abbrev pub status_of : Result Bool Stop → SpoolStatus
status_of (Ok true) = status.Done
status_of (Ok false) = status.Standing
status_of (Err stop.Input) = status.InputFault
status_of (Err stop.Disk) = status.DiskFault
status_of (Err stop.Memory) = status.Memory
status_of (Err stop.Refused) = status.Refused
