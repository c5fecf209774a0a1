use Rattle.std.proofs.Common.{◌≡◌, take, length, vec_len, vec_capacity}
use Rattle.alias_groups.proofs.aliases.copies.Given as goal

abbrev pub invariant-loop-name : goal.invariant-loop-name
invariant-loop-name l = (l.copies.items ≡ take l.name-index l.names) × (vec_len l.copies ≡ l.name-index) × (vec_capacity l.copies ≡ length l.names)
