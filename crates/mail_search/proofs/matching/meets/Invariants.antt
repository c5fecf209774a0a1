use Rattle.std.proofs.Common.{take}
use Rattle.mail_search.specs.Known.{IsKnown}
use Rattle.mail_search.specs.Steps.{keys_of}
use Rattle.mail_search.proofs.matching.meets.Given as goal

-- what is known of the keys of the steps so far
abbrev pub invariant-loop-step : goal.invariant-loop-step
invariant-loop-step l = IsKnown l.message l.facts l.held (keys_of (take l.step-index l.step-items))
