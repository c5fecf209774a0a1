use Rattle.std.proofs.Common.{drop}
use Rattle.host_port.specs.Disk.{SameDisk, disk}
use Rattle.memory_disk.specs.Standings.{disk_now}
use Rattle.memory_disk.proofs.stops.effects.Given as goal

abbrev pub invariant-loop-event : goal.invariant-loop-event
invariant-loop-event l = SameDisk (disk (disk_now l.standing) (drop l.event-index l.events)) (disk (disk_now l.initial.standing) l.events)
