use Rattle.std.specs.Prelude.{◌≡◌, ◌++◌, map, take, drop}
use Rattle.session_state.specs.Pending.{capped_to}
use Rattle.session_state.proofs.frames.Frames.cap.Given as goal

abbrev pub invariant-loop-frame : goal.invariant-loop-frame
invariant-loop-frame l = l.frame-items ≡ map (capped_to l.depth) (take l.frame-index l.fn.self) ++ drop l.frame-index l.fn.self
