use Rattle.filing_laws.proofs.TellingLemmas.{gathered_is_told, put_is_at_the_end, quits_tell_behind}
use Rattle.filing_laws.proofs.laws.a_receipt_tells_what_is_there.Goals as goal

pub returns : goal.returns
returns c = record { behind = quits_tell_behind; gathered = gathered_is_told; put = put_is_at_the_end }
