use Rattle.actor_bracket.specs.Stands.{changes_of, state_as}
use Rattle.actor_bracket.proofs.ReplayLemmas.{replay_more}
use Rattle.actor_bracket.proofs.folding.replayed.Goals as goal

pub loop-one-preserved : goal.loop-one-preserved
loop-one-preserved c =
    replay_more c.args.actor.now c.args.task.now c.args.past.now c.loop-one.one-index c.one-item.result (state_as (changes_of c.args.task.now) c.loop-one.stand)
    (state_as (changes_of c.args.task.now) c.in_ok-stand.stand) c.loop-one-test.true c.one-item.is c.loop-one.invariant c.in_ok-stand.ensures
