use Rattle.std.proofs.Common.{List, [], ap, map, ◌∙◌}
use Rattle.core_steps.specs.declared.change.CoreChange.{CoreChange}
use Rattle.core_steps.specs.declared.actor.Doing.TheVariants.{Bracket, Nothing}
use Rattle.core_steps.specs.declared.actor.Task.{Task}
use Rattle.core_steps.specs.declared.actor.Task.TheVariants.{Commit}
use Rattle.actor_core.proofs.TurnLemmas.{begin_not, begin_so}
use Rattle.actor_core.proofs.turning.begin.Goals as goal

pub returns-then-not-branch : goal.returns-then-not-branch
returns-then-not-branch c = λ k d.
    begin_not k d (map (λ m. m.actor) c.args.members.now) c.args.actor.now c.args.changes.now c.args.moment.now c.in_ok-may_commit.field-0 c.in_ok-may_commit.ensures c.if-not-branch.true

pub returns : goal.returns
returns c = λ k d.
    begin_so k d (map (λ m. m.actor) c.args.members.now) c.args.actor.now c.args.changes.now c.args.moment.now c.only.result c.in_ok-may_commit.field-0 c.in_ok-may_commit.ensures
    c.if-not-branch.false
    (c.only.ensures k d Nothing (Bracket (Commit c.args.changes.now c.args.moment.now) [])
    (ap (λ (t : Task). Bracket t []) c.commit_of-task.ensures ∙ ap (λ (cs : List CoreChange). Bracket (Commit cs c.args.moment.now) []) c.in_ok-changes.ensures))
