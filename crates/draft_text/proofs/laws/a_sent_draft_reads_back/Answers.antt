use Rattle.draft_text.proofs.StoredLemmas.{sent-reads}
use Rattle.draft_text.proofs.laws.a_sent_draft_reads_back.Goals as goal

pub returns : goal.returns
returns c = sent-reads
