use Rattle.std.proofs.Common.{◌≡◌}
use Rattle.trial_host.specs.Texts.{mailbox_of}
use Rattle.trial_host.proofs.texts.mailbox.Given as goal

abbrev pub invariant-loop-k : goal.invariant-loop-k
invariant-loop-k l = l.text ≡ mailbox_of l.k
