-- How mail is sent.
use Rattle.std.specs.Prelude.{◌≡◌, ◌≤◌, ℕ, pos, false, List, [], ◌∷◌, Option, Some, None, length, codes, if◌then◌else◌}
use Rattle.std.specs.Ordering.{int_eq}
use Rattle.std.specs.declared.result.Result.{Result}
use Rattle.std.specs.declared.result.Result.TheVariants.{Ok, Err}
use Rattle.host_port.specs.declared.event.ChildAnswer.{ChildAnswer}
use Rattle.host_port.specs.Calls.{Counts, Rose, output_limit}
use Rattle.session_play.specs.declared.stop.Stop.{Stop}
use Rattle.session_play.specs.declared.stop.Stop.TheVariants as stop
use Rattle.mailx_vars.specs.Settings.{Settings, value_of}
use Rattle.sender_port.specs.declared.error.NamesFault.{NamesFault}
use Rattle.sender_port.specs.declared.error.NamesFault.TheVariants as fault
use Rattle.sender_port.specs.declared.error.SendError.{SendError}
use Rattle.sender_port.specs.declared.error.SendError.TheVariants as error

-- the program that a value of `sendmail` names; unset or empty, it is the usual one
abbrev pub program_in : Option (List ℕ) → List ℕ
program_in None = codes "/usr/lib/sendmail"
program_in (Some []) = codes "/usr/lib/sendmail"
program_in (Some (b ∷ bs)) = b ∷ bs

-- the program that takes mail
abbrev pub program_of : Settings → List ℕ
program_of vars = program_in (value_of vars (codes "sendmail"))

-- its arguments: `-i`, and then the names
abbrev pub sender_args : List (List ℕ) → List (List ℕ)
sender_args names = codes "-i" ∷ names

-- what its answer means: with status 0 the mail was sent, and the output is handed on; with another it was refused; without an answer the sender
-- could not be run
abbrev pub sent : Option ChildAnswer → Result (List ℕ) SendError
sent None = Err error.Child
sent (Some answer) = if int_eq answer.status (pos 0) then Ok answer.output else Err (error.Refused answer.status answer.output)

-- the error that refuses names
abbrev pub refused_names : NamesFault → SendError
refused_names fault.NoRecipients = error.NoRecipients
refused_names (fault.NotAnAddress name) = error.NotAnAddress name

-- the error is of the sender, or that memory ran out, and not of the names; a refusal has another status than 0
abbrev pub IsOfSender : SendError → Type 0
IsOfSender (error.Refused status output) = int_eq status (pos 0) ≡ false
IsOfSender error.Child = Unit {0}
IsOfSender error.Memory = Unit {0}
IsOfSender e = ⊥

-- what a call answered, as the end of a play: running out of memory cuts the play off
abbrev pub as_played : Result (List ℕ) SendError → Result (Result (List ℕ) SendError) Stop
as_played (Ok output) = Ok (Ok output)
as_played (Err error.Memory) = Err stop.Memory
as_played (Err e) = Ok (Err e)

-- the sender could not be run only if the count of such faults rose
abbrev pub SendCause : Counts → Counts → Result (List ℕ) SendError → Type 0
SendCause old new (Err error.Child) = Rose old.children new.children
SendCause old new result = Unit {0}

-- an output that is handed on, or that comes with a refusal, is within the limit of a child's
abbrev pub IsBounded : Result (List ℕ) SendError → Type 0
IsBounded (Ok output) = length output ≤ output_limit
IsBounded (Err (error.Refused status output)) = length output ≤ output_limit
IsBounded (Err e) = Unit {0}
