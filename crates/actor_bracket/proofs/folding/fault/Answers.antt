use Rattle.std.proofs.Common.{◌∙◌, sym}
use Rattle.actor_bracket.proofs.RestLemmas.{fault_rest}
use Rattle.actor_bracket.proofs.folding.fault.Goals as goal

pub returns-in_default : goal.returns-in_default
returns-in_default c = λ cs. c.failing.ensures cs ∙ sym (fault_rest cs c.args.stand c.in_default.not-Committing)
