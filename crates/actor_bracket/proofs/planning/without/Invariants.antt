use Rattle.std.proofs.Common.{◌≡◌, ◌++◌, take}
use Rattle.commit_machine.specs.Edits.{without}
use Rattle.actor_bracket.proofs.planning.without.Given as goal

abbrev pub invariant-loop-other : goal.invariant-loop-other
invariant-loop-other l = l.left ≡ l.initial.left ++ without l.name (take l.other-index l.names)
