use Rattle.std.proofs.Common.{sym, ◌∙◌}
use Rattle.core_steps.specs.Tasks.{job_of}
use Rattle.actor_bracket.specs.Stands.{changes_of, state_as}
use Rattle.actor_bracket.proofs.RestLemmas.{lets_go_refused}
use Rattle.actor_bracket.proofs.folding.refused.Goals as goal

pub returns-then-lets_go : goal.returns-then-lets_go
returns-then-lets_go c =
    lets_go_refused (job_of c.args.actor.now c.args.task.now) (state_as (changes_of c.args.task.now) c.args.stand) (sym (c.lets_go.ensures (changes_of c.args.task.now)) ∙ c.if-lets_go.true)
