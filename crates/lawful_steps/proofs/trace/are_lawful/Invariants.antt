use Rattle.std.proofs.Common.{◌≡◌, ◌<◌, ℕ, List, Some}
use Rattle.host_port.specs.declared.event.Event.{Event}
use Rattle.host_memory.specs.MemHosts.{host_start, host_told}
use Rattle.lawful_steps.specs.Steps.{IsLawfulAt}
use Rattle.lawful_steps.proofs.trace.are_lawful.Given as goal

-- what stands before the place is lawful
abbrev pub invariant-loop-k : goal.invariant-loop-k
invariant-loop-k l = (trace : List Event) → host_told l.host ≡ Some trace → (j : ℕ) → j < l.k → IsLawfulAt l.actor l.token (host_start l.host) trace j
