use Rattle.memory_disk.specs.Standings.{disk_now}
use Rattle.actor_disk.proofs.SeeLemmas.{seen_lists}
use Rattle.actor_disk.proofs.seeing.seen_by.Goals as goal

pub returns : goal.returns
returns c =
    seen_lists c.args.number c.args.lists.now c.items-files.result.now c.items-locks.result.now c.items.result.now (disk_now c.in_ok-disk.disk) c.items-files.ensures c.items-locks.ensures
    c.items.ensures c.in_ok-disk.ensures
