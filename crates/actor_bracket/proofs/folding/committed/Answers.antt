use Rattle.actor_bracket.proofs.RestLemmas.{committed_is}
use Rattle.actor_bracket.proofs.folding.committed.Goals as goal

pub returns-then-did : goal.returns-then-did
returns-then-did c =
    committed_is c.args.actor.now c.args.task.now c.args.done c.items.result.now c.items-then-did.result.now c.placing.result c.in_ok-value.value c.in_ok-list.list c.in_ok-locks.locks c.args.did
    c.items.ensures c.items-then-did.ensures c.placing.ensures c.in_ok-value.ensures c.in_ok-list.ensures c.in_ok-locks.ensures.names c.if-did.true
