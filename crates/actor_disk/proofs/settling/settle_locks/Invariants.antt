use Rattle.std.proofs.Common.{map, take}
use Rattle.memory_disk.specs.Lists.{lookup, named}
use Rattle.memory_disk.specs.Standings.{disk_now}
use Rattle.core_steps.specs.Settling.{settled_locks_by}
use Rattle.actor_disk.specs.Settling.{SettlesLocks}
use Rattle.actor_disk.proofs.settling.settle_locks.Given as goal

abbrev pub invariant-loop-name : goal.invariant-loop-name
invariant-loop-name l =
    SettlesLocks (settled_locks_by (map (λ m. m.actor.name) l.members) (named l.files) (lookup l.locks))
    (map (λ p. p.0) (take l.name-index l.locks)) (disk_now l.initial.disk) (disk_now l.disk)
