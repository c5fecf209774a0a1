use Rattle.std.proofs.Common.{◌≡◌, ◌++◌, false, length}
use Rattle.mail_addresses.specs.Forms.{unescaped}
use Rattle.mail_addresses.proofs.scan.push_unescaped.Given as goal

-- what is put so far and what is left are the whole
abbrev pub invariant-loop-at : goal.invariant-loop-at
invariant-loop-at l = l.out ++ unescaped false l.rest ≡ l.initial.out ++ unescaped false l.inside

abbrev pub decreases-loop-at : goal.decreases-loop-at
decreases-loop-at l = length l.rest
