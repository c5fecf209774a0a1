use Rattle.run_laws.proofs.KeepingLemmas.{edits_keep_messages}
use Rattle.run_laws.proofs.laws.edits_keep_messages.Goals as goal

pub returns : goal.returns
returns c = edits_keep_messages
