use Rattle.std.proofs.Common.{length}
use Rattle.mail_addresses.specs.Forms.{is_solid}
use Rattle.mail_addresses.proofs.Walks.{Walked}
use Rattle.mail_addresses.proofs.parts.split_at_gap.Given as goal

-- no blanks stand before
abbrev pub invariant-loop-token : goal.invariant-loop-token
invariant-loop-token l = Walked is_solid l.bytes l.rest

abbrev pub decreases-loop-token : goal.decreases-loop-token
decreases-loop-token l = length l.rest
