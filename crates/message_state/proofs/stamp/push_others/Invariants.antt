use Rattle.std.proofs.Common.{◌≡◌, ◌++◌, drop}
use Rattle.message_state.specs.Stamp.{other_bytes}
use Rattle.message_state.proofs.stamp.push_others.Given as goal

abbrev pub invariant-loop-byte : goal.invariant-loop-byte
invariant-loop-byte l = l.value ++ other_bytes (drop l.byte-index l.old) ≡ l.initial.value ++ other_bytes l.old
