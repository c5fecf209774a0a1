use Rattle.std.proofs.Common.{◌≡◌, ◌++◌, take}
use Rattle.alias_groups.specs.Listing.{spaced}
use Rattle.alias_groups.proofs.listing.put_spaced.Given as goal

abbrev pub invariant-loop-word : goal.invariant-loop-word
invariant-loop-word l = l.out ≡ l.fn.out ++ spaced (take l.word-index l.words)
