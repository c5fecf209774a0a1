use Rattle.filing_laws.proofs.SavingLemmas.{marked_is_put}
use Rattle.filing_laws.proofs.laws.what_is_marked_saved_is_put.Goals as goal

pub returns : goal.returns
returns c = marked_is_put
