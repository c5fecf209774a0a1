use Rattle.std.proofs.Common.{◌≡◌, ◌⊎◌, ◌<◌, List, length, subst}
use Rattle.core_steps.specs.declared.actor.Member.{Member}
use Rattle.actor_core.proofs.StepLemmas.{no_member, no_number}
use Rattle.actor_core.proofs.taking.take_step.Goals as goal

pub returns-in-None-clause-steps : goal.returns-in-None-clause-steps
returns-in-None-clause-steps c =
    no_member c.args.lists.now c.args.members.now c.args.places.now c.args.step.now
    (no_number c.args.members.now c.args.step.now.actor
    (subst (λ (z : List Member). (c.args.step.now.actor ≡ 0) ⊎ (length z < c.args.step.now.actor)) c.items.ensures (c.place_of.ensures.none c.in-None.is)))
