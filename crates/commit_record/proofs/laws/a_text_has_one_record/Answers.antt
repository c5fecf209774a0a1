use Rattle.commit_record.proofs.ReadingLemmas.{one_reading}
use Rattle.commit_record.proofs.laws.a_text_has_one_record.Goals as goal

pub returns : goal.returns
returns c = one_reading
