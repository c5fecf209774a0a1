use Rattle.std.proofs.Common.{◌≡◌, map, take}
use Rattle.compose_tilde.specs.Values.{flat}
use Rattle.compose_tilde.proofs.values.flat_all.Given as goal

abbrev pub invariant-loop-word : goal.invariant-loop-word
invariant-loop-word l = l.all.items ≡ map flat (take l.word-index l.words)
