use Rattle.memory_disk.specs.Standings.{disk_now}
use Rattle.actor_disk.proofs.SeeLemmas.{another_has}
use Rattle.actor_disk.proofs.seeing.give_other.Goals as goal

pub returns : goal.returns
returns c =
    another_has (disk_now c.args.disk.now) (disk_now c.release.new.disk) (disk_now c.other_seizes.new.disk) c.args.name.now c.in_ok-release.ensures c.in_ok-other_seizes.ensures
