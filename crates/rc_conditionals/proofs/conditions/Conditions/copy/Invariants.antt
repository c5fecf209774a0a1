use Rattle.std.proofs.Common.{◌≡◌, take}
use Rattle.rc_conditionals.proofs.conditions.Conditions.copy.Given as goal

abbrev pub invariant-loop-condition : goal.invariant-loop-condition
invariant-loop-condition l = l.open.items ≡ take l.condition-index l.conditions
