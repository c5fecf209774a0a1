use Rattle.std.proofs.Common.{sym, subst, ◌∙◌, take_all}
use Rattle.memory_disk.specs.Lists.{named}
use Rattle.core_steps.proofs.Views.{same_at}
use Rattle.actor_disk.specs.Starting.{AreFit, AreFree}
use Rattle.actor_disk.proofs.StartLemmas.{fit_none, free_none, taken_next, taken_there}
use Rattle.actor_disk.proofs.starting.first_taken.Goals as goal

pub loop-at-init : goal.loop-at-init
loop-at-init c = (fit_none, free_none (named c.args.disk.now.files) (named c.args.disk.now.locks) c.args.actors.now)

pub returns-then-is_some : goal.returns-then-is_some
returns-then-is_some c =
    taken_there (named c.args.disk.now.files) (named c.args.disk.now.locks) c.args.actors.now c.loop-at.at c.split_at.result.0.now c.index-actors-at.result c.in_ok-token.token
    c.loop-at-test.true c.split_at.ensures.front c.index-actors-at.is
    (c.in_ok-token.ensures.takes c.args.actors.now c.requires.once.0 c.requires.once.1 (same_at c.requires.files) (same_at c.requires.locks) (c.items.ensures ∙ c.in_ok-records.ensures))
    (sym c.is_some.ensures ∙ c.if-is_some.true) c.loop-at.invariant.1

pub loop-at-preserved : goal.loop-at-preserved
loop-at-preserved c =
    taken_next (named c.args.disk.now.files) (named c.args.disk.now.locks) c.args.actors.now c.loop-at.at c.split_at.result.0.now c.index-actors-at.result c.in_ok-token.token
    c.loop-at-test.true c.split_at.ensures.front c.index-actors-at.is c.in_ok-token.ensures.fits
    (c.in_ok-token.ensures.takes c.args.actors.now c.requires.once.0 c.requires.once.1 (same_at c.requires.files) (same_at c.requires.locks) (c.items.ensures ∙ c.in_ok-records.ensures))
    (sym c.is_some.ensures ∙ c.if-is_some.false) c.loop-at.invariant

pub returns : goal.returns
returns c =
    subst (λ xs. AreFit xs × AreFree (named c.args.disk.now.files) (named c.args.disk.now.locks) c.args.actors.now xs)
    (take_all c.loop-at.at c.args.actors.now c.loop-at-test.false) c.loop-at.invariant
