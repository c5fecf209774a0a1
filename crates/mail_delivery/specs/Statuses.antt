-- How a delivery ends.
use Rattle.std.specs.Prelude.{ℕ, List, if◌then◌else◌}
use Rattle.std.specs.declared.result.Result.{Result}
use Rattle.std.specs.declared.result.Result.TheVariants.{Ok, Err}
use Rattle.commit_machine.specs.Records.{has}
use Rattle.session_play.specs.declared.stop.Stop.{Stop}
use Rattle.session_play.specs.declared.stop.Stop.TheVariants as stop
use Rattle.session_play.specs.declared.changing.Attempt.{Attempt}
use Rattle.session_play.specs.declared.changing.Attempt.TheVariants.{Made, Misnamed}
use Rattle.session_play.specs.declared.changing.Committed.TheVariants as committed
use Rattle.mail_delivery.specs.declared.status.DeliverStatus.{DeliverStatus}
use Rattle.mail_delivery.specs.declared.status.DeliverStatus.TheVariants as status

-- The number with which the program ends.
abbrev pub number_of : DeliverStatus → ℕ
number_of status.Done = 0
number_of status.Usage = 2
number_of status.InputFault = 3
number_of status.DiskFault = 5
number_of status.Refused = 7
number_of status.Memory = 8
number_of status.InputLimit = 9
number_of status.BadRecord = 11

-- The status that the answer to a commit of these mailboxes calls for. A file that is too large is one of them, or else the record or a
-- staged file. The last three answers come to no delivery.
abbrev pub status_of : List (List ℕ) → Attempt → DeliverStatus
status_of mailboxes (Made committed.Done) = status.Done
status_of mailboxes (Made (committed.Busy name)) = status.Refused
status_of mailboxes (Made committed.NotARecord) = status.BadRecord
status_of mailboxes (Made (committed.TooLarge name length)) = if has mailboxes name then status.Refused else status.BadRecord
status_of mailboxes (Made (committed.Changed name at)) = status.Refused
status_of mailboxes (Made (committed.TooManyNames count)) = status.Refused
status_of mailboxes (Misnamed name fault) = status.Refused

-- the answer comes to deliveries
abbrev pub MayCome : Attempt → Type 0
MayCome (Made (committed.Changed name at)) = ⊥
MayCome (Made (committed.TooManyNames count)) = ⊥
MayCome (Misnamed name fault) = ⊥
MayCome answer = Unit {0}

-- a status that a commit's answer calls for
abbrev pub IsAnswer : DeliverStatus → Type 0
IsAnswer status.Done = Unit {0}
IsAnswer status.Refused = Unit {0}
IsAnswer status.BadRecord = Unit {0}
IsAnswer s = ⊥

-- The status of a run that ended so, or was cut off. No fault of the output cuts a delivery off, which has none.
abbrev pub status_at : Result DeliverStatus Stop → DeliverStatus
status_at (Ok s) = s
status_at (Err stop.Input) = status.InputFault
status_at (Err stop.Output) = status.Memory
status_at (Err stop.Disk) = status.DiskFault
status_at (Err stop.TooMuch) = status.InputLimit
status_at (Err stop.Memory) = status.Memory
