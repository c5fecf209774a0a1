use Rattle.std.proofs.Common.{◌≡◌, false, drop}
use Rattle.mail_addresses.specs.Tokens.{unquote}
use Rattle.mail_addresses.proofs.scan.quote_end.Given as goal

-- the answer on what is left is the answer on the whole
abbrev pub invariant-loop-i : goal.invariant-loop-i
invariant-loop-i l = unquote l.escaped l.i (drop l.i l.bytes) ≡ unquote false 0 l.bytes
