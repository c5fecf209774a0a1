use Rattle.std.proofs.Common.{ℕ, List, length}
use Rattle.mail_addresses.specs.Plain.{HasDots}
use Rattle.mail_addresses.proofs.plain.after_dots.Given as goal

-- what is left and what stands before it make one
abbrev pub invariant-loop-after : goal.invariant-loop-after
invariant-loop-after l = (after : List ℕ) → HasDots l.rest after → HasDots l.bytes after

abbrev pub decreases-loop-after : goal.decreases-loop-after
decreases-loop-after l = length l.rest
