use Rattle.filing_laws.proofs.LeavingLemmas.{fills_mbox}
use Rattle.filing_laws.proofs.laws.quits_fill_mbox.Goals as goal

pub returns : goal.returns
returns c = fills_mbox
