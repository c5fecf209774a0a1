use Rattle.memory_disk.proofs.ReplayLemmas.{replayed-from}
use Rattle.memory_disk.proofs.stops.replayed.Goals as goal

pub returns-in-Ok : goal.returns-in-Ok
returns-in-Ok c = replayed-from _ _ _ c.args.events.now c.in-Ok.ensures c.in_ok-disk.ensures
