use Rattle.std.proofs.Common.{arith}
use Rattle.std.proofs.lemmas.Grind.{common_steps}
use Rattle.memory_disk.specs.Standings.{disk_now}
use Rattle.actor_disk.proofs.SeeLemmas.{see_next, see_none}
use Rattle.actor_disk.proofs.seeing.+see.Goals as goal

pub returns-in_ok-disk-in-empty : goal.returns-in_ok-disk-in-empty
returns-in_ok-disk-in-empty t c =
    see_none c.args.number c.args.files.now c.args.locks.now c.args.holders.now (disk_now c.in_ok-disk-in-empty.disk) c.in_ok-disk-in-empty.ensures (grind (arith, common_steps))

pub returns-in_ok-give-in-len1-up : goal.returns-in_ok-give-in-len1-up
returns-in_ok-give-in-len1-up t c =
    see_next c.args.number c.first-item.result _ c.args.files.now c.args.locks.now c.args.holders.now (disk_now c.in_ok-disk-in-len1-up.disk) (disk_now c.give.new.disk) c.bytes.result.now
    c.in_ok-disk-in-len1-up.ensures c.bytes.ensures c.in_ok-give-in-len1-up.ensures (grind (arith, common_steps))
