-- How a job begins over a host.
use Rattle.std.specs.Prelude.{◌≡◌, ℕ, false, List}
use Rattle.std.specs.List.{list_any}
use Rattle.host_port.specs.declared.event.Event.{Event}
use Rattle.host_port.specs.Calls.{Rose}
use Rattle.commit_machine.specs.Names.{right_name}
use Rattle.commit_machine.specs.Jobs.{Before, Busy, Refused, Failed, Job}
use Rattle.commit_machine.specs.Machine.{State, Seizing, Ended, asking}
use Rattle.commit_machine.specs.Goes.{Goes}
use Rattle.commit_driver.specs.declared.beginning.Begun.{Begun}
use Rattle.commit_driver.specs.declared.beginning.Begun.TheVariants as begun
use Rattle.commit_driver.specs.Did.{LoadsFit}
use Rattle.commit_driver.specs.Drives.{is_past_limit}

-- the state of a job whose right was wanted so
abbrev pub state_begun : Job → Begun → State
state_begun j begun.Taken = asking j.time
state_begun j begun.Busy = Ended (Refused (Busy (right_name j.actor)))
state_begun j begun.Failed = Ended (Failed Before)

-- the events carry the machine of the job from its start to there, and no load among them met too many bytes or saw a file past the limit
pub record Begins (j : Job) (result : Begun) (es : List Event) : Type 0 where
  pub within : list_any is_past_limit es ≡ false
  pub fit : LoadsFit es
  pub goes : Goes j Seizing es (state_begun j result)

-- a fault is told only if the count of disk faults rose
abbrev pub BegunCaused : ℕ → ℕ → Begun → Type 0
BegunCaused before now begun.Taken = Unit {0}
BegunCaused before now begun.Busy = Unit {0}
BegunCaused before now begun.Failed = Rose before now
