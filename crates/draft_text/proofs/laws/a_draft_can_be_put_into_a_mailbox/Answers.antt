use Rattle.draft_text.proofs.StoredLemmas.{stored-proper}
use Rattle.draft_text.proofs.laws.a_draft_can_be_put_into_a_mailbox.Goals as goal

pub returns : goal.returns
returns c = stored-proper
