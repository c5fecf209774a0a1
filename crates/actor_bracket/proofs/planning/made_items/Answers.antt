use Rattle.std.proofs.Common.{◌∙◌, ap, map, take_all}
use Rattle.commit_machine.specs.Items.{made_item}
use Rattle.actor_bracket.specs.Stands.{changes_of, mades_as}
use Rattle.actor_bracket.proofs.PlanLemmas.{items_more}
use Rattle.actor_bracket.proofs.planning.made_items.Goals as goal

pub loop-name-preserved : goal.loop-name-preserved
loop-name-preserved c = λ cs.
    items_more (made_item (mades_as cs c.args.made.now)) c.items-name-items.result.now c.loop-name.name-index c.name-item.result c.loop-name.list
    c.push.new.self c.in_ok-item.item c.loop-name-test.true
    c.name-item.is (c.loop-name.invariant cs) c.in_ok-push.ensures.ok (c.in_ok-item.ensures cs ∙ ap (made_item (mades_as cs c.args.made.now)) c.bytes.ensures)

pub returns : goal.returns
returns c = λ a.
    let made = mades_as (changes_of c.args.task.now) c.args.made.now in
    c.loop-name.invariant (changes_of c.args.task.now)
    ∙ ap (map (made_item made)) (take_all c.loop-name.name-index c.items-name-items.result.now c.loop-name-test.false ∙ c.items-name-items.ensures ∙ c.in_ok-names.ensures.names a)
