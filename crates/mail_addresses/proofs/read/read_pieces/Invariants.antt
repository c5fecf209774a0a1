use Rattle.std.proofs.Common.{◌≡◌, ◌≤◌, ◌+◌, List, length}
use Rattle.mail_addresses.specs.declared.address.Address.{Address}
use Rattle.mail_addresses.specs.Keeping.{kept}
use Rattle.mail_addresses.proofs.PieceReading.{IsRead}
use Rattle.mail_addresses.proofs.read.read_pieces.Given as goal

-- the pieces before gave what was put
abbrev pub invariant-loop-good : goal.invariant-loop-good
invariant-loop-good l = record {
  added : List Address;
  put : l.list.items ≡ kept l.keep l.initial.list.items added;
  read : IsRead l.value l.rest added l.number;
  counted : l.number + length l.rest ≤ length l.value;
}

abbrev pub decreases-loop-good : goal.decreases-loop-good
decreases-loop-good l = length l.rest
