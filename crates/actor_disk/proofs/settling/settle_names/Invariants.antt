use Rattle.std.proofs.Common.{map, take}
use Rattle.memory_disk.specs.Lists.{named}
use Rattle.memory_disk.specs.Standings.{disk_now}
use Rattle.core_steps.specs.Settling.{settled_by}
use Rattle.actor_disk.specs.Settling.{SettlesNames}
use Rattle.actor_disk.proofs.settling.settle_names.Given as goal

abbrev pub invariant-loop-name : goal.invariant-loop-name
invariant-loop-name l = SettlesNames (settled_by (map (λ m. m.actor.name) l.members) (named l.files)) (take l.name-index l.names) (disk_now l.initial.disk) (disk_now l.disk)
