use Rattle.std.proofs.Common.{◌≡◌, ◌++◌, codes, take}
use Rattle.std.specs.List.{flat_map}
use Rattle.child_commands.specs.Listing.{quoted_byte}
use Rattle.child_commands.proofs.listing.put_quoted.Given as goal

abbrev pub invariant-loop-byte : goal.invariant-loop-byte
invariant-loop-byte l = l.out ≡ (l.fn.out ++ codes "'") ++ flat_map quoted_byte (take l.byte-index l.bytes)
