use Rattle.std.proofs.Common.{◌≤◌, ◌-◌, length, vec_capacity}
use Rattle.mbox_scan.specs.Spans.{IsScannedTo}
use Rattle.mbox_scan.proofs.span.push_spans.Given as goal

abbrev pub invariant-loop-start : goal.invariant-loop-start
invariant-loop-start l = record {
  scanned : IsScannedTo l.bytes l.spans.items l.start;
  room : vec_capacity l.fn.spans ≤ vec_capacity l.spans;
}

abbrev pub decreases-loop-start : goal.decreases-loop-start
decreases-loop-start l = length l.bytes - l.start
