use Rattle.std.proofs.Common.{◌≡◌, take, true}
use Rattle.std.specs.List.{list_all}
use Rattle.mail_addresses.specs.Lexical.{is_atom_byte}
use Rattle.mail_addresses.proofs.scan.atom_length.Given as goal

-- all bytes before pass
abbrev pub invariant-loop-i : goal.invariant-loop-i
invariant-loop-i l = list_all is_atom_byte (take l.i l.bytes) ≡ true
