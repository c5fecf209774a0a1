use Rattle.std.proofs.Common.{◌∙◌}
use Rattle.core_steps.specs.Tasks.{job_of}
use Rattle.actor_bracket.specs.Stands.{changes_of}
use Rattle.actor_bracket.proofs.RestLemmas.{wanted_rest}
use Rattle.actor_bracket.proofs.folding.short.Goals as goal

pub returns-in_ok-stand-in_default : goal.returns-in_ok-stand-in_default
returns-in_ok-stand-in_default c = c.in_ok-stand-in_default.ensures ∙ wanted_rest (job_of c.args.actor.now c.args.task.now) (changes_of c.args.task.now) c.args.stand c.in_default.not-Checking
