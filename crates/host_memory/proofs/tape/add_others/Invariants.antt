use Rattle.std.proofs.Common.{◌≡◌, ◌++◌, map, drop}
use Rattle.host_memory.specs.Views.{steps_before}
use Rattle.host_port.specs.declared.event.Event.TheVariants as event
use Rattle.host_memory.proofs.tape.add_others.Given as goal

abbrev pub invariant-loop-at : goal.invariant-loop-at
invariant-loop-at l = record {
  trace : l.tape.trace.items ++ map event.Foreign (steps_before (drop l.at-index l.plan) l.call) ≡ l.fn.tape.trace.items ++ map event.Foreign (steps_before l.plan l.call);
  start : l.tape.start ≡ l.fn.tape.start;
}
