use Rattle.std.proofs.Common.{◌≡◌, ◌++◌, length}
use Rattle.mbox_scan.specs.Mailbox.{join}
use Rattle.actor_bracket.proofs.rewriting.push_rest.Given as goal

abbrev pub invariant-loop-text : goal.invariant-loop-text
invariant-loop-text l = l.file ++ join l.texts ≡ l.initial.file ++ join l.initial.texts

abbrev pub decreases-loop-text : goal.decreases-loop-text
decreases-loop-text l = length l.texts
