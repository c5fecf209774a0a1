use Rattle.std.proofs.Common.{◌≡◌, List, Some, slice_get, subst}
use Rattle.core_steps.specs.declared.actor.Member.{Member}
use Rattle.actor_core.specs.Shown.{state_shown}
use Rattle.actor_core.specs.Turning.{held_of}
use Rattle.actor_core.proofs.StepLemmas.{core_at, refused_at, taken_at}
use Rattle.actor_core.proofs.WriteLemmas.{writes_at}
use Rattle.actor_core.proofs.taking.take_at.Goals as goal

pub turn_of-requires-clause-writes : goal.turn_of-requires-clause-writes
turn_of-requires-clause-writes c = λ m t past is e.
    writes_at (state_shown (held_of c.args.lists.now c.args.members.now c.args.places.now)) c.requires.core.reached c.args.at m t past
    (subst (λ (z : List Member). slice_get z c.args.at ≡ Some m) c.items.ensures is) e

pub returns-in-None-clause-steps : goal.returns-in-None-clause-steps
returns-in-None-clause-steps c =
    refused_at c.args.lists.now c.args.members.now c.items.result.now c.args.places.now c.args.step.now c.args.at c.in_ok-turn_of.field-0 c.requires.number c.requires.at c.items.ensures
    c.in_ok-turn_of.ensures c.in-None.is

pub returns-in_ok-take-in-Some-clause-steps : goal.returns-in_ok-take-in-Some-clause-steps
returns-in_ok-take-in-Some-clause-steps c =
    taken_at c.args.lists.now c.args.members.now c.items.result.now c.args.places.now c.args.step.now c.args.at c.in_ok-turn_of.field-0 c.requires.number c.requires.at c.items.ensures
    c.in_ok-turn_of.ensures c.in-Some.turn c.in-Some.is c.take.new.lists c.take.new.members c.take.new.places c.in_ok-take-in-Some.ensures.lists
    c.in_ok-take-in-Some.ensures.members c.in_ok-take-in-Some.ensures.places

pub returns-in_ok-take-in-Some-clause-core : goal.returns-in_ok-take-in-Some-clause-core
returns-in_ok-take-in-Some-clause-core c =
    core_at c.args.lists.now c.args.members.now c.items.result.now c.args.places.now c.args.step.now c.args.at c.in_ok-turn_of.field-0 c.requires.number c.requires.at c.items.ensures
    c.in_ok-turn_of.ensures c.in-Some.turn c.in-Some.is c.take.new.lists c.take.new.members c.take.new.places c.in_ok-take-in-Some.ensures.lists
    c.in_ok-take-in-Some.ensures.members c.in_ok-take-in-Some.ensures.places
    c.requires.core
