use Rattle.std.proofs.Common.{length}
use Rattle.mail_addresses.proofs.Walks.{Walked, is_other}
use Rattle.mail_addresses.proofs.parts.split_at_mark.Given as goal

-- no such mark stands before
abbrev pub invariant-loop-token : goal.invariant-loop-token
invariant-loop-token l = Walked (is_other l.byte) l.bytes l.rest

abbrev pub decreases-loop-token : goal.decreases-loop-token
decreases-loop-token l = length l.rest
