use Rattle.std.proofs.Common.{◌≡◌, drop}
use Rattle.host_memory.specs.Views.{part_at}
use Rattle.host_memory.proofs.calls.failing.Given as goal

abbrev pub invariant-loop-at : goal.invariant-loop-at
invariant-loop-at l = part_at (drop l.at-index l.plan) l.call ≡ part_at l.plan l.call
