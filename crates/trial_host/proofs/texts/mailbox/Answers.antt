use Rattle.std.proofs.Common.{◌∙◌, ◌+◌, ◌++◌, List, ℕ, ap, sym}
use Rattle.trial_host.specs.Texts.{message_of}
use Rattle.trial_host.proofs.TextLemmas.{one-more}
use Rattle.trial_host.proofs.texts.mailbox.Goals as goal

pub loop-k-preserved : goal.loop-k-preserved
loop-k-preserved c = c.in_ok-put_message.ensures ∙ ap (λ (t : List ℕ). t ++ message_of (c.loop-k.k + 1)) c.loop-k.invariant ∙ sym (one-more c.loop-k.k)
