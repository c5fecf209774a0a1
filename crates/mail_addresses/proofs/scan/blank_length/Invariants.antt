use Rattle.std.proofs.Common.{◌≡◌, take, true}
use Rattle.std.specs.List.{list_all}
use Rattle.mail_addresses.specs.Lexical.{is_blank_byte}
use Rattle.mail_addresses.proofs.scan.blank_length.Given as goal

-- all bytes before pass
abbrev pub invariant-loop-i : goal.invariant-loop-i
invariant-loop-i l = list_all is_blank_byte (take l.i l.bytes) ≡ true
