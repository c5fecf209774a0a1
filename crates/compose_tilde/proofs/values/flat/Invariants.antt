use Rattle.std.proofs.Common.{◌≡◌, map, take}
use Rattle.compose_tilde.specs.Values.{flat_byte}
use Rattle.compose_tilde.proofs.values.flat.Given as goal

abbrev pub invariant-loop-byte : goal.invariant-loop-byte
invariant-loop-byte l = l.value.items ≡ map flat_byte (take l.byte-index l.bytes)
