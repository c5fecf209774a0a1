use Rattle.std.proofs.Common.{◌≡◌, drop}
use Rattle.command_words.specs.Words.{equals_in}
use Rattle.command_words.proofs.refused.has_equals_value.Given as goal

abbrev pub invariant-loop-i : goal.invariant-loop-i
invariant-loop-i l = equals_in (drop l.i l.bundle) ≡ equals_in l.bundle
