use Rattle.std.proofs.Common.{arith}
use Rattle.std.proofs.lemmas.Grind.{common_steps}
use Rattle.memory_disk.specs.Lists.{named}
use Rattle.actor_disk.proofs.SeeLemmas.{held_next}
use Rattle.actor_disk.proofs.seeing.+held_by_others.Goals as goal

pub returns-in_ok-put_other-in-len1-up : goal.returns-in_ok-put_other-in-len1-up
returns-in_ok-put_other-in-len1-up t c =
    held_next c.args.number c.first-item.result _ c.args.holders.now (named c.in_ok-held-in-len1-up.held.locks) (named c.put_other.new.held.locks) c.bytes.result.now
    c.in_ok-held-in-len1-up.ensures c.bytes.ensures c.in_ok-put_other-in-len1-up.ensures (grind (arith, common_steps))
