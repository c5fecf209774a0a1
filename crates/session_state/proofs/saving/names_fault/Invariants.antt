use Rattle.std.proofs.Common.{◌≡◌, drop}
use Rattle.session_state.specs.Saving.{names_fault}
use Rattle.session_state.proofs.saving.names_fault.Given as goal

abbrev pub invariant-loop-change : goal.invariant-loop-change
invariant-loop-change l = names_fault l.state (drop l.change-index l.changes) ≡ names_fault l.state l.changes
