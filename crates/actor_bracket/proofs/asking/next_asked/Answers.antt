use Rattle.memory_disk.specs.Standings.{disk_now}
use Rattle.actor_bracket.proofs.ReplayLemmas.{go_asked}
use Rattle.actor_bracket.proofs.asking.next_asked.Goals as goal

pub returns-in_ok-stage_go-in-Deciding : goal.returns-in_ok-stage_go-in-Deciding
returns-in_ok-stage_go-in-Deciding c =
    go_asked c.args.actor.now c.args.task.now c.in-Deciding.made c.items.result.now (disk_now c.args.disk.now) c.args.stand.now c.in_ok-stage_go-in-Deciding.field-0 c.items.ensures c.in-Deciding.is
    c.in_ok-stage_go-in-Deciding.ensures
