use Rattle.std.proofs.Common.{◌≡◌, ◌≤◌, false, drop}
use Rattle.mail_addresses.specs.Tokens.{close}
use Rattle.mail_addresses.proofs.scan.comment_end.Given as goal

-- the answer on what is left is the answer on the whole
abbrev pub invariant-loop-i : goal.invariant-loop-i
invariant-loop-i l = record {
  same : close l.escaped l.depth l.i (drop l.i l.bytes) ≡ close false 0 0 l.bytes;
  shallow : l.depth ≤ l.i;
}
