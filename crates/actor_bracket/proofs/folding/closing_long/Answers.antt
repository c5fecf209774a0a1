use Rattle.std.proofs.Common.{sym, ◌∙◌}
use Rattle.actor_bracket.specs.Stands.{then_as}
use Rattle.actor_bracket.proofs.RestLemmas.{closing_long_rest}
use Rattle.actor_bracket.proofs.folding.closing_long.Goals as goal

pub returns-in_default : goal.returns-in_default
returns-in_default c = λ cs j. c.failing.ensures cs ∙ sym (closing_long_rest j c.args.value c.args.closing (then_as c.args.then) c.args.length c.in_default.not-Testing)
