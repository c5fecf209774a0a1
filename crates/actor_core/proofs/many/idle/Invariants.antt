use Rattle.std.proofs.Common.{◌≡◌, map, take}
use Rattle.core_steps.specs.declared.actor.Doing.TheVariants.{Nothing}
use Rattle.core_steps.specs.declared.actor.Member.{Member}
use Rattle.actor_core.proofs.many.idle.Given as goal

abbrev pub invariant-loop-actor : goal.invariant-loop-actor
invariant-loop-actor l = l.members ≡ map (λ a. (let m : Member = record { actor = a; doing = Nothing } in m)) (take l.actor-index l.actors)
