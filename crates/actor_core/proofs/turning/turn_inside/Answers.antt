use Rattle.std.proofs.Common.{subst}
use Rattle.memory_disk.specs.Standings.{disk_now}
use Rattle.actor_disk.specs.Seeing.{shown_disk}
use Rattle.actor_core.specs.Turning.{Asks}
use Rattle.actor_core.proofs.TurnLemmas.{none_at, own_ask, some_at}
use Rattle.actor_core.proofs.turning.turn_inside.Goals as goal

pub turn_asked-requires-clause-own : goal.turn_asked-requires-clause-own
turn_asked-requires-clause-own c =
    own_ask (disk_now c.in_ok-disk.disk) c.args.actor.now c.args.task.now c.args.past.now c.args.kind.now c.in-Some.event
    (subst (Asks (disk_now c.in_ok-disk.disk) c.args.actor.now c.args.task.now c.args.past.now c.args.kind.now) c.in-Some.is c.in_ok-ask.ensures)

pub returns-in-None : goal.returns-in-None
returns-in-None c =
    none_at c.args.number (shown_disk c.args.lists.now) c.args.actor.now c.args.task.now c.args.past.now c.args.kind.now (disk_now c.in_ok-disk.disk) c.in_ok-disk.ensures
    (subst (Asks (disk_now c.in_ok-disk.disk) c.args.actor.now c.args.task.now c.args.past.now c.args.kind.now) c.in-None.is c.in_ok-ask.ensures)

pub returns : goal.returns
returns c =
    some_at c.args.number (shown_disk c.args.lists.now) c.args.actor.now c.args.task.now c.args.past.now c.args.kind.now (disk_now c.in_ok-disk.disk) c.in_ok-disk.ensures c.in-Some.event
    c.in_ok-turn-in-Some.turn (subst (Asks (disk_now c.in_ok-disk.disk) c.args.actor.now c.args.task.now c.args.past.now c.args.kind.now) c.in-Some.is c.in_ok-ask.ensures) c.in_ok-turn-in-Some.ensures
