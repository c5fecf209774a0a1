use Rattle.std.proofs.Common.{sym, ◌∙◌}
use Rattle.core_steps.specs.Tasks.{job_of}
use Rattle.actor_bracket.specs.Stands.{changes_of}
use Rattle.actor_bracket.proofs.RestLemmas.{saw_rest}
use Rattle.actor_bracket.proofs.folding.saw.Goals as goal

pub returns-in_default : goal.returns-in_default
returns-in_default c =
    c.failing.ensures (changes_of c.args.task.now)
    ∙ sym (saw_rest (job_of c.args.actor.now c.args.task.now) (changes_of c.args.task.now) c.args.stand c.args.file c.in_default.not-Looking c.in_default.not-Closing c.in_default.not-Loading
    c.in_default.not-Checking)
