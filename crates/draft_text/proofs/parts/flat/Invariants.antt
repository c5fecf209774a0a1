use Rattle.std.proofs.Common.{◌≡◌, take, length, vec_len, vec_capacity}
use Rattle.draft_text.specs.Texts.{flat}
use Rattle.draft_text.proofs.parts.flat.Given as goal

abbrev pub invariant-loop-byte : goal.invariant-loop-byte
invariant-loop-byte l = (l.text.items ≡ flat (take l.byte-index l.bytes)) × (vec_len l.text ≡ l.byte-index) × (vec_capacity l.text ≡ length l.bytes)
