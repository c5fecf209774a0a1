use Rattle.std.proofs.Common.{map}
use Rattle.memory_disk.specs.Lists.{named}
use Rattle.memory_disk.specs.Standings.{disk_now}
use Rattle.core_steps.specs.Settling.{settled_by}
use Rattle.actor_disk.proofs.SettleLemmas.{settles_none, names_next}
use Rattle.actor_disk.proofs.settling.settle_names.Goals as goal

pub loop-name-init : goal.loop-name-init
loop-name-init c = settles_none (settled_by (map (λ m. m.actor.name) c.args.members.now) (named c.args.files.now)) (disk_now c.args.disk.now)

pub loop-name-preserved : goal.loop-name-preserved
loop-name-preserved c =
    names_next (settled_by (map (λ m. m.actor.name) c.args.members.now) (named c.args.files.now))
    c.args.names.now c.loop-name.name-index c.name-item.result c.bytes.result.now _ (disk_now c.loop-name.disk) _
    c.loop-name-test.true c.name-item.is c.bytes.ensures c.loop-name.invariant c.in_ok-settle_name.ensures
