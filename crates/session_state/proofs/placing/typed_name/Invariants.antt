use Rattle.std.proofs.Common.{◌≡◌, drop}
use Rattle.session_state.specs.Placing.{typed_name}
use Rattle.session_state.proofs.placing.typed_name.Given as goal

abbrev pub invariant-loop-name : goal.invariant-loop-name
invariant-loop-name l = typed_name l.here (drop l.name-index l.names) l.fn.file ≡ typed_name l.here l.names l.fn.file
