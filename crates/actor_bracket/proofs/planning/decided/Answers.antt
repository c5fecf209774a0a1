use Rattle.std.proofs.Common.{◌∙◌, ap, map, take_all}
use Rattle.commit_record.specs.Ways.{entry_for}
use Rattle.commit_machine.specs.Jobs.{made_at, way_made}
use Rattle.actor_bracket.specs.Stands.{mades_as}
use Rattle.actor_bracket.proofs.PlanLemmas.{map_more, entry_same}
use Rattle.actor_bracket.proofs.planning.decided.Goals as goal

pub loop-name-preserved : goal.loop-name-preserved
loop-name-preserved c = λ cs.
    map_more (λ n. entry_for (way_made (made_at (mades_as cs c.args.made.now) n)) n) c.args.names.now c.loop-name.name-index c.name-item.result c.loop-name.entries c.push.new.self c.entry_for.result
    c.loop-name-test.true c.name-item.is (c.loop-name.invariant cs) c.in_ok-push.ensures.ok
    (entry_same cs c.args.made.now c.entry_for.result c.way_at-way.result c.in_ok-name.name c.name-item.result _ _ c.entry_for.ensures
    (c.way_at-way.ensures cs) c.bytes.ensures c.in_ok-name.ensures c.bytes-in-loop-name.ensures)

pub returns : goal.returns
returns c = λ cs.
    c.loop-name.invariant cs
    ∙ ap (map (λ n. entry_for (way_made (made_at (mades_as cs c.args.made.now) n)) n)) (take_all c.loop-name.name-index c.args.names.now c.loop-name-test.false)
