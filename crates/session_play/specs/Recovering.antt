-- What a recovery is answered, and the own events of one.
use Rattle.std.specs.Prelude.{ℕ, List}
use Rattle.std.specs.declared.result.Result.{Result}
use Rattle.std.specs.declared.result.Result.TheVariants.{Ok, Err}
use Rattle.host_port.specs.declared.event.Event.{Event}
use Rattle.commit_machine.specs.Edits.{recovery_for}
use Rattle.commit_driver.specs.declared.step.Recovered.{Recovered}
use Rattle.commit_driver.specs.Did.{LoadsFit}
use Rattle.folder_recovery.specs.declared.error.RecoverError.{RecoverError}
use Rattle.folder_recovery.specs.declared.error.RecoverError.TheVariants as error
use Rattle.folder_recovery.specs.Recovering.{Recovers}
use Rattle.session_play.specs.declared.stop.Stop.{Stop}
use Rattle.session_play.specs.declared.stop.Stop.TheVariants as stop
use Rattle.session_play.specs.declared.recovering.RecoveryAnswer.{RecoveryAnswer}
use Rattle.session_play.specs.declared.recovering.RecoveryAnswer.TheVariants as recovery

-- an answer to a recovery, as the recovery gives it
abbrev pub recovery_as : RecoveryAnswer → Result Recovered RecoverError
recovery_as (recovery.Done found) = Ok found
recovery_as (recovery.Busy name) = Err (error.Busy name)
recovery_as recovery.NotARecord = Err error.NotARecord
recovery_as (recovery.TooLarge name length) = Err (error.TooLarge name length)

-- Own events of an actor's recovery that gives this answer: those of one bracket, which carry the machine of a recovery from its start to its
-- end, and of whose loads each has what a load takes. The token is that of the run; the recovery itself uses the one in the record.
abbrev pub IsRecoveryOf : List ℕ → ℕ → List Event → Result Recovered RecoverError → Type 0
IsRecoveryOf actor token es result = LoadsFit es × Recovers (recovery_for actor token) es result

-- what a run makes of a recovery's answer: a fault of the disk and running out of memory cut it off
abbrev pub recovered : Result Recovered RecoverError → Result RecoveryAnswer Stop
recovered (Ok found) = Ok (recovery.Done found)
recovered (Err (error.Busy name)) = Ok (recovery.Busy name)
recovered (Err error.NotARecord) = Ok recovery.NotARecord
recovered (Err (error.TooLarge name length)) = Ok (recovery.TooLarge name length)
recovered (Err error.Disk) = Err stop.Disk
recovered (Err error.Memory) = Err stop.Memory
