use Rattle.std.proofs.Common.{◌≡◌, take}
use Rattle.actor_bracket.proofs.folding.copy_mades.Given as goal

abbrev pub invariant-loop-one : goal.invariant-loop-one
invariant-loop-one l = l.copies ≡ take l.one-index l.made
