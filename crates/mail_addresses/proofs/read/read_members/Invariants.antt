use Rattle.std.proofs.Common.{◌≡◌, ◌++◌, List, length}
use Rattle.mail_addresses.specs.declared.address.Address.{Address}
use Rattle.mail_addresses.specs.Keeping.{kept}
use Rattle.mail_addresses.specs.Listing.{pieces, Lists, SpellsMailbox}
use Rattle.mail_addresses.specs.Tokens.{tokens_in}
use Rattle.mail_addresses.proofs.read.read_members.Given as goal

-- the pieces before gave what was put, so the answer on what is left is the answer on the whole
abbrev pub invariant-loop-good : goal.invariant-loop-good
invariant-loop-good l = record {
  added : List Address;
  put : l.list.items ≡ kept l.keep l.initial.list.items added;
  lists : (later : List Address) → Lists SpellsMailbox (pieces (tokens_in l.rest)) later → Lists SpellsMailbox (pieces (tokens_in l.bytes)) (added ++ later);
  left : (all : List Address) → Lists SpellsMailbox (pieces (tokens_in l.bytes)) all → (later : List Address) × Lists SpellsMailbox (pieces (tokens_in l.rest)) later;
}

abbrev pub decreases-loop-good : goal.decreases-loop-good
decreases-loop-good l = length l.rest
