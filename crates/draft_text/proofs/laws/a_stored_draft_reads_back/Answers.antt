use Rattle.draft_text.proofs.StoredLemmas.{stored-reads}
use Rattle.draft_text.proofs.laws.a_stored_draft_reads_back.Goals as goal

pub returns : goal.returns
returns c = stored-reads
