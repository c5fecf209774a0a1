use Rattle.std.proofs.Common.{map}
use Rattle.memory_disk.specs.Lists.{named}
use Rattle.memory_disk.specs.Standings.{disk_now}
use Rattle.actor_disk.proofs.SettleLemmas.{locks_next}
use Rattle.actor_disk.proofs.settling.settle_locks.Goals as goal

pub loop-name-preserved : goal.loop-name-preserved
loop-name-preserved c =
    locks_next (map (λ m. m.actor.name) c.args.members.now) (named c.args.files.now) c.args.locks.now c.loop-name.name-index c.loop-name-item.result c.bytes.result.now _ (disk_now c.loop-name.disk) _
    c.loop-name-test.true c.loop-name-item.is c.bytes.ensures c.requires.once c.requires.stand c.loop-name.invariant c.in_ok-settle_lock.ensures
