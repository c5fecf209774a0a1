use Rattle.std.proofs.Common.{take}
use Rattle.memory_disk.specs.Lists.{named}
use Rattle.actor_disk.specs.Starting.{AreFit, AreFree}
use Rattle.actor_disk.proofs.starting.first_taken.Given as goal

abbrev pub invariant-loop-at : goal.invariant-loop-at
invariant-loop-at l = AreFit (take l.at l.actors) × AreFree (named l.disk.files) (named l.disk.locks) l.actors (take l.at l.actors)
