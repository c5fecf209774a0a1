use Rattle.run_laws.proofs.KeepingLemmas.{filings_keep_messages}
use Rattle.run_laws.proofs.laws.filings_keep_messages.Goals as goal

pub returns : goal.returns
returns c = filings_keep_messages
