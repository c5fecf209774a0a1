use Rattle.std.proofs.Common.{refl, ap, ◌∙◌}
use Rattle.core_steps.specs.Turns.{passed_at}
use Rattle.actor_core.proofs.turning.tell_stop.Goals as goal

pub returns : goal.returns
returns c = λ old. record {
  doing = refl;
  disk = c.in_ok-there.ensures.disk;
  passed = c.in_ok-passed.ensures ∙ ap (passed_at c.args.actor.now c.args.task.now c.args.event.now) c.requires.seen;
  once = c.in_ok-there.ensures.once;
}
