-- The mailbox of one message more.
use Rattle.std.proofs.Common.{◌≡◌, ◌+◌, ℕ, ◌++◌, refl, add-one}
use Rattle.trial_host.specs.Texts.{mailbox_of, message_of}

pub one-more : (k : ℕ) → mailbox_of (k + 1) ≡ mailbox_of k ++ message_of (k + 1)
one-more k = rw add-one refl
