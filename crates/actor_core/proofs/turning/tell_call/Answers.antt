use Rattle.std.proofs.Common.{ap, ◌∙◌}
use Rattle.core_steps.specs.Turns.{passed_at}
use Rattle.actor_core.proofs.turning.tell_call.Goals as goal

pub returns : goal.returns
returns c = record {
  doing = c.in_ok-goes.ensures;
  disk = c.in_ok-there.ensures.disk;
  passed = c.in_ok-passed.ensures ∙ ap (passed_at c.args.actor.now c.args.task.now c.args.event.now) c.requires.seen;
  once = c.in_ok-there.ensures.once;
}
