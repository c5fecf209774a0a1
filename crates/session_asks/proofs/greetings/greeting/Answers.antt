use Rattle.std.proofs.Common.{rules}
use Rattle.session_asks.specs.Openings.{greeting}
use Rattle.session_asks.proofs.greetings.greeting.Goals as goal

pub returns-then-not-flag : goal.returns-then-not-flag
unfolding greeting
returns-then-not-flag c = search rules

pub returns : goal.returns
unfolding greeting
returns c = search rules
