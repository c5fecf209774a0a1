use Rattle.std.proofs.Common.{◌≡◌, take, map}
use Rattle.folder_change.specs.Changes.{name_of}
use Rattle.session_state.proofs.placing.names_of.Given as goal

abbrev pub invariant-loop-change : goal.invariant-loop-change
invariant-loop-change l = l.names ≡ map name_of (take l.change-index l.changes)
