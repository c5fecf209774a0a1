use Rattle.std.proofs.Common.{ap, ◌∙◌}
use Rattle.commit_machine.specs.Jobs.{entries_for, made_at, way_made}
use Rattle.actor_bracket.specs.Stands.{mades_as}
use Rattle.actor_bracket.proofs.PlanLemmas.{go_made}
use Rattle.actor_bracket.proofs.planning.go_of.Goals as goal

pub returns : goal.returns
returns c = go_made c.args.actor.now c.args.task.now c.args.made.now c.in_ok-names.names c.in_ok-entries.entries c.moment_of.result (c.in_ok-names.ensures.names c.args.actor.now)
    (λ cs. c.in_ok-entries.ensures cs ∙ ap (entries_for (λ n. way_made (made_at (mades_as cs c.args.made.now) n))) c.items.ensures) (c.moment_of.ensures c.args.actor.now)
