use Rattle.std.proofs.Common.{◌≡◌, length}
use Rattle.mail_addresses.specs.Forms.{is_dot_atom}
use Rattle.mail_addresses.specs.Tokens.{tokens_in}
use Rattle.mail_addresses.proofs.parts.is_dot_atom.Given as goal

-- the answer on what is left is the answer on the whole
abbrev pub invariant-loop-part : goal.invariant-loop-part
invariant-loop-part l = is_dot_atom (tokens_in l.rest) ≡ is_dot_atom (tokens_in l.bytes)

abbrev pub decreases-loop-part : goal.decreases-loop-part
decreases-loop-part l = length l.rest
