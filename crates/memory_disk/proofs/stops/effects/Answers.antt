use Rattle.memory_disk.proofs.ReplayLemmas.{replay-more, same-refl}
use Rattle.memory_disk.proofs.stops.effects.Goals as goal

pub loop-event-init : goal.loop-event-init
loop-event-init c = same-refl _

pub loop-event-preserved : goal.loop-event-preserved
loop-event-preserved c = replay-more _ _ _ c.args.events.now c.loop-event.event-index c.event-item.result c.loop-event-test.true c.event-item.is c.in_ok-effect.ensures.ok c.loop-event.invariant
