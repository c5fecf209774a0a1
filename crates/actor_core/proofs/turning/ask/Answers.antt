use Rattle.memory_disk.specs.Standings.{disk_now}
use Rattle.actor_core.proofs.TurnLemmas.{asks_is}
use Rattle.actor_core.proofs.turning.ask.Goals as goal

pub returns : goal.returns
returns c =
    asks_is (disk_now c.args.disk.now) c.args.actor.now c.args.task.now c.args.past.now c.args.kind.now c.in_ok-next.next.event c.allowed.result c.in_ok-next.next.may_want
    c.in_ok-next.ensures.event c.in_ok-next.ensures.want c.allowed.ensures
