use Rattle.filing_laws.proofs.LeavingLemmas.{in_order}
use Rattle.filing_laws.proofs.laws.quits_keep_the_order.Goals as goal

pub returns : goal.returns
returns c = in_order
