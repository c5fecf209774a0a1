-- What one call of a host is as a call of the machine.
use Rattle.std.specs.Prelude.{◌≡◌, ℕ, Bool, true, List, [], ◌∷◌}
use Rattle.std.specs.declared.result.Result.{Result}
use Rattle.std.specs.declared.result.Result.TheVariants.{Ok, Err}
use Rattle.host_port.specs.declared.event.Event.{Event}
use Rattle.host_port.specs.declared.event.LoadAnswer.{LoadAnswer}
use Rattle.host_port.specs.declared.host.DiskFault.{DiskFault}
use Rattle.host_port.specs.declared.host.LoadError.{LoadError}
use Rattle.host_port.specs.declared.host.LoadError.TheVariants as error
use Rattle.host_port.specs.Calls.{LoadFits}
use Rattle.commit_machine.specs.Settled.{Mem}
use Rattle.commit_machine.specs.Machine.{Call, ToUnlock, Reply, Went, Saw, Long, Short, Fault}
use Rattle.commit_machine.specs.Goes.{IsOf, reply}

-- no load among the events saw a file past the limit
abbrev pub LoadsFit : List Event → Type 0
LoadsFit es = (e : Event) → Mem e es → LoadFits e

-- the own events of one call: one event, which is of the call, answers so, and is no load of a file past the limit
pub record Did (c : Call) (r : Reply) (es : List Event) : Type 0 where
  pub event : Event
  pub is : es ≡ event ∷ []
  pub of : IsOf c event
  pub replies : reply event ≡ r
  pub within : LoadFits event

-- what a call answers that may answer false
abbrev pub told_reply : Result Bool DiskFault → Reply
told_reply (Ok b) = Went b
told_reply (Err fault) = Fault

-- what a call answers that is done or fails
abbrev pub done_reply : Result Unit DiskFault → Reply
done_reply (Ok u) = Went true
done_reply (Err fault) = Fault

-- what a load answers
abbrev pub load_reply : Result LoadAnswer LoadError → Reply
load_reply (Ok a) = Saw a.bytes
load_reply (Err (error.TooLarge n)) = Long n
load_reply (Err error.Failed) = Fault
load_reply (Err error.Memory) = Short

-- an unlocking: whether the lock was the token's isn't answered
abbrev pub DidUnlock : List ℕ → ℕ → Result Unit DiskFault → List Event → Type 0
DidUnlock name token (Ok u) es = (b : Bool) × Did (ToUnlock name token) (Went b) es
DidUnlock name token (Err fault) es = Did (ToUnlock name token) Fault es
