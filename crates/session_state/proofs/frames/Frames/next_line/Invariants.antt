use Rattle.std.specs.Prelude.{◌≡◌, ◌++◌, [], List, length}
use Rattle.session_state.specs.Waits.{Pending}
use Rattle.session_state.specs.Pending.{taken, open_before}
use Rattle.session_state.proofs.frames.Frames.next_line.Given as goal

abbrev pub invariant-frames : goal.invariant-frames
invariant-frames l = record {
  same : taken l.self ≡ taken l.fn.self;
  none : l.fn.self ≡ [] → l.self ≡ [];
  shut : (shut : List Pending) × (l.fn.self ≡ l.self ++ shut) × (l.nested ≡ open_before shut);
}

abbrev pub decreases-frames : goal.decreases-frames
decreases-frames l = length l.self
