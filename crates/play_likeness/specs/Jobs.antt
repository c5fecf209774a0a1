-- The own events of a job are fixed by the disk, and the time that it is told.
use Rattle.std.specs.Prelude.{◌≡◌, Bool, true, false, List}
use Rattle.host_port.specs.declared.event.Event.{Event}
use Rattle.host_port.specs.Disk.{Disk}
use Rattle.host_port.specs.Ran.{Honest}
use Rattle.commit_machine.specs.Jobs.{Ending, Failed, NoMemory, Job}
use Rattle.commit_machine.specs.Machine.{Seizing, Ended}
use Rattle.commit_machine.specs.Goes.{Goes}
use Rattle.play_likeness.specs.Loads.{LoadsTell}

-- a job ended by a failed call or for want of memory
abbrev pub is_hindered : Ending → Bool
is_hindered (Failed passed) = true
is_hindered NoMemory = true
is_hindered end = false

-- The own events of a job from a disk, which say what is so, and of which each load tells what stands. The job isn't hindered.
pub record GoesFrom (j : Job) (d : Disk) (es : List Event) (end : Ending) : Type 0 where
  pub goes : Goes j Seizing es (Ended end)
  pub honest : Honest d es
  pub tell : LoadsTell es
  pub unhindered : is_hindered end ≡ false

-- from one disk a job, told one time, has one list of events, and one end
abbrev pub JobsAreAlike : Type 0
JobsAreAlike = (j : Job) (d : Disk) (es fs : List Event) (a b : Ending) → GoesFrom j d es a → GoesFrom j d fs b → (es ≡ fs) × (a ≡ b)
