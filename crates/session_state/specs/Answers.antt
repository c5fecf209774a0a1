-- What the answers of a session are in a play, and which ends they may have.
use Rattle.std.specs.Prelude.{◌≡◌, IfOk}
use Rattle.std.specs.declared.result.Result.{Result}
use Rattle.std.specs.declared.result.Result.TheVariants.{Ok, Err}
use Rattle.host_port.specs.Calls.{Counts, Rose}
use Rattle.session_play.specs.declared.stop.Stop.{Stop}
use Rattle.session_play.specs.declared.stop.Stop.TheVariants as stop
use Rattle.session_play.specs.Play.{Next, Go, Last}
use Rattle.session_play.specs.Steps.{After, On, Over, Refused, Ended}
use Rattle.read_commands.specs.declared.origin.Origin.{Origin}
use Rattle.read_commands.specs.declared.origin.Origin.TheVariants.{Startup}
use Rattle.session_state.specs.declared.answers.AskResult.{AskResult}
use Rattle.session_state.specs.declared.answers.AskResult.TheVariants as answered
use Rattle.session_state.specs.declared.error.RunError.{RunError}
use Rattle.session_state.specs.declared.error.RunError.TheVariants as error
use Rattle.session_state.specs.declared.flow.Flow.{Flow}
use Rattle.session_state.specs.declared.flow.Flow.TheVariants as flow
use Rattle.session_state.specs.declared.state.SessionState.{SessionState}
use Rattle.session_state.specs.declared.status.Status.{Status}
use Rattle.session_state.specs.Statuses.{IsLineEnd}

-- what the answers to a command's asks leave
abbrev pub after_asks : SessionState → AskResult → After SessionState Status
after_asks s answered.On = On s
after_asks s answered.Over = Over s
after_asks s (answered.Refused line) = Refused line
after_asks s (answered.Ended e) = Ended e

-- the next state, or the end
abbrev pub next_of : SessionState → Flow → Next SessionState Status
next_of s flow.Go = Go s
next_of s (flow.End e) = Last e

-- the cut that an error is
abbrev pub stop_of : RunError → Stop
stop_of error.Output = stop.Output
stop_of error.Disk = stop.Disk
stop_of error.Memory = stop.Memory

-- a result of a play, or the cut
abbrev pub in_play : {A B : Type 0} → (A → B) → Result A RunError → Result B Stop
in_play to (Ok a) = Ok (to a)
in_play to (Err e) = Err (stop_of e)

-- a line is cut off by a fault only if the count of its kind rose
abbrev pub LineCaused : {T : Type 0} → Counts → Counts → Result T RunError → Type 0
LineCaused old new (Err error.Output) = Rose old.outs new.outs
LineCaused old new (Err error.Disk) = Rose old.disks new.disks
LineCaused old new (Err error.Memory) = Unit {0}
LineCaused old new (Ok t) = Unit {0}

-- if the run ends, it ends as a line ends it
abbrev pub EndsByLine : Flow → Type 0
EndsByLine flow.Go = Unit {0}
EndsByLine (flow.End s) = IsLineEnd s

-- if an ask ended the run, it ends as a line ends it
abbrev pub EndsByAsk : AskResult → Type 0
EndsByAsk (answered.Ended s) = IsLineEnd s
EndsByAsk a = Unit {0}

-- no fault of the disk cuts it off
abbrev pub IsNoDiskFault : RunError → Type 0
IsNoDiskFault error.Disk = ⊥
IsNoDiskFault e = Unit {0}

-- an ask doesn't end the run
abbrev pub EndsNoRun : AskResult → Type 0
EndsNoRun (answered.Ended e) = ⊥
EndsNoRun a = Unit {0}

-- asks don't end the run, and no fault of the disk cuts them off
abbrev pub AsksGoOn : Result AskResult RunError → Type 0
AsksGoOn (Ok a) = EndsNoRun a
AsksGoOn (Err e) = IsNoDiskFault e

-- the session goes on, unless it is cut off, and that by no fault of the disk
abbrev pub GoesOn : Result Flow RunError → Type 0
GoesOn (Ok went) = went ≡ flow.Go
GoesOn (Err e) = IsNoDiskFault e

-- how a line from somewhere ends, if the run ends with it: after one of a start-up file the session goes on
abbrev pub EndsFrom : Origin → Result Flow RunError → Type 0
EndsFrom Startup result = GoesOn result
EndsFrom other result = IfOk result EndsByLine
