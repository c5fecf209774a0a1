use Rattle.std.proofs.Common.{length}
use Rattle.mail_addresses.specs.Forms.{is_gap}
use Rattle.mail_addresses.proofs.Walks.{Walked}
use Rattle.mail_addresses.proofs.parts.are_gaps.Given as goal

-- blanks and comments alone stand before
abbrev pub invariant-loop-token : goal.invariant-loop-token
invariant-loop-token l = Walked is_gap l.bytes l.rest

abbrev pub decreases-loop-token : goal.decreases-loop-token
decreases-loop-token l = length l.rest
