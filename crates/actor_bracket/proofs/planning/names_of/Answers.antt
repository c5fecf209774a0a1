use Rattle.std.proofs.Common.{ap, ◌∙◌}
use Rattle.core_steps.specs.Changes.{files_named}
use Rattle.actor_bracket.proofs.StandLemmas.{job_names}
use Rattle.actor_bracket.proofs.planning.names_of.Goals as goal

pub returns-clause-names : goal.returns-clause-names
returns-clause-names c = λ a. c.in_ok-names.ensures ∙ ap files_named c.changes_in.ensures ∙ job_names a c.args.task.now
