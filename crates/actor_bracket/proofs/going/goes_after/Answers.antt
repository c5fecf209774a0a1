use Rattle.actor_bracket.proofs.GoingLemmas.{goes_shown}
use Rattle.actor_bracket.proofs.going.goes_after.Goals as goal

pub returns : goal.returns
returns c =
    goes_shown c.args.actor.now c.args.task.now c.args.past.now c.in_ok-before.before c.in_ok-stand.stand c.in_ok-before.ensures c.args.event.now
    c.goes_of.result c.in_ok-stand.ensures c.goes_of.ensures
