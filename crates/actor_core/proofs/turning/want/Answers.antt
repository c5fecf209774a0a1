use Rattle.actor_core.proofs.TurnLemmas.{want_at}
use Rattle.actor_core.proofs.turning.want.Goals as goal

pub returns : goal.returns
returns c = λ k d. want_at k d c.args.actor.now c.args.task.now c.args.past.now c.in_ok-goes.goes c.next_of.result c.in_ok-goes.ensures c.next_of.ensures
