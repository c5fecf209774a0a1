use Rattle.std.proofs.Common.{◌≡◌, ◌≤◌, ◌+◌, ◌-◌, length, drop, true}
use Rattle.mbox_scan.specs.Mailbox.{is_mailbox, texts_of}
use Rattle.mbox_scan.proofs.scan.count_messages.Given as goal

abbrev pub invariant-loop-start : goal.invariant-loop-start
invariant-loop-start l = record {
  within : l.start ≤ length l.bytes;
  mailbox : is_mailbox (drop l.start l.bytes) ≡ true;
  so_far : l.count + length (texts_of (drop l.start l.bytes)) ≡ length (texts_of l.bytes);
  low : l.count ≤ l.start;
}

abbrev pub decreases-loop-start : goal.decreases-loop-start
decreases-loop-start l = length l.bytes - l.start
