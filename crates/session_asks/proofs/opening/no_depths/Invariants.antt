use Rattle.std.proofs.Common.{◌≡◌, replicate}
use Rattle.session_asks.proofs.opening.no_depths.Given as goal

abbrev pub invariant-loop : goal.invariant-loop
invariant-loop l = l.depth ≡ replicate l.counter 0
