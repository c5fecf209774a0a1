use Rattle.std.proofs.Common.{◌≡◌, length}
use Rattle.mail_dates.specs.Parts.{date_parts}
use Rattle.mail_dates.proofs.parts.at_part.Given as goal

abbrev pub invariant-loop-b : goal.invariant-loop-b
invariant-loop-b l = date_parts l.rest ≡ date_parts l.text

abbrev pub decreases-loop-b : goal.decreases-loop-b
decreases-loop-b l = length l.rest
