use Rattle.std.proofs.Common.{◌≡◌, ◌++◌}
use Rattle.session_state.specs.Placing.{placed_changes}
use Rattle.session_state.proofs.placing.placed_changes.Given as goal

abbrev pub invariant-loop-change : goal.invariant-loop-change
invariant-loop-change l = l.all ++ placed_changes l.here l.change-iterator.rest.items ≡ placed_changes l.here l.fn.changes
