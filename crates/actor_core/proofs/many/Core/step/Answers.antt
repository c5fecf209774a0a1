use Rattle.std.proofs.Common.{Bool, List, subst}
use Rattle.std.specs.Result.{IfOk}
use Rattle.core_steps.specs.Theorem.{IsChangedFrom, Settles}
use Rattle.core_steps.specs.Turns.{Passed}
use Rattle.actor_core.specs.Answers.{KeepsMessages, Steps}
use Rattle.actor_core.specs.Shown.{Held, state_shown}
use Rattle.actor_core.specs.Turning.{held_of}
use Rattle.actor_core.proofs.ReachLemmas.{changed_kept, keeps_messages}
use Rattle.actor_core.proofs.StepLemmas.{settles_after}
use Rattle.actor_core.proofs.many.Core.step.Goals as goal

pub returns-clause-steps : goal.returns-clause-steps
returns-clause-steps c =
    let now = held_of c.take_step.new.lists c.take_step.new.members c.take_step.new.places in
    subst (λ (h : Held). IfOk c.take_step.result (λ (done : Bool). Steps h c.args.step.now done now)) c.self.view_is c.take_step.ensures.steps

pub returns-clause-settles : goal.returns-clause-settles
returns-clause-settles c =
    let old = held_of c.self.inside.lists c.self.inside.members c.self.inside.places in
    let now = held_of c.take_step.new.lists c.take_step.new.members c.take_step.new.places in
    subst (λ (h : Held). (more : List Passed) × Settles (state_shown h) (state_shown now) more) c.self.view_is
    (settles_after old now c.args.step.now c.take_step.result c.take_step.ensures.steps c.take_step.ensures.memory c.self.invariant.reached)

pub returns-clause-whole : goal.returns-clause-whole
returns-clause-whole c = λ start.
    let old = held_of c.self.inside.lists c.self.inside.members c.self.inside.places in
    let now = held_of c.take_step.new.lists c.take_step.new.members c.take_step.new.places in
    let w = settles_after old now c.args.step.now c.take_step.result c.take_step.ensures.steps c.take_step.ensures.memory c.self.invariant.reached in
    subst (λ (h : Held). IsChangedFrom start (state_shown h) → IsChangedFrom start (state_shown now)) c.self.view_is
    (λ from. changed_kept start (state_shown old) (state_shown now) w.0 w.1 from)

pub returns-clause-stays : goal.returns-clause-stays
returns-clause-stays c =
    let old = held_of c.self.inside.lists c.self.inside.members c.self.inside.places in
    let now = held_of c.take_step.new.lists c.take_step.new.members c.take_step.new.places in
    let w = settles_after old now c.args.step.now c.take_step.result c.take_step.ensures.steps c.take_step.ensures.memory c.self.invariant.reached in
    subst (λ (h : Held). KeepsMessages (state_shown h) (state_shown now)) c.self.view_is (keeps_messages (state_shown old) (state_shown now) w.0 w.1)
