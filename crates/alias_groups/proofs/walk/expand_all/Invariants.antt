use Rattle.std.proofs.Common.{◌≡◌}
use Rattle.alias_groups.specs.Unwinding.{Fits, finished, left_work, start}
use Rattle.alias_groups.proofs.walk.expand_all.Given as goal

abbrev pub invariant-names : goal.invariant-names
invariant-names l = Fits l.aliases l.walk × (finished l.aliases l.dropped start l.fn.names ≡ finished l.aliases l.dropped l.walk l.left)

abbrev pub decreases-names : goal.decreases-names
decreases-names l = left_work l.aliases l.walk l.left
