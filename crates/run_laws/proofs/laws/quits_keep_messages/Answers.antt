use Rattle.run_laws.proofs.KeepingLemmas.{quits_keep_messages}
use Rattle.run_laws.proofs.laws.quits_keep_messages.Goals as goal

pub returns : goal.returns
returns c = quits_keep_messages
