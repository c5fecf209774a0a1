use Rattle.filing_laws.proofs.EditingLemmas.{leaves_the_others}
use Rattle.filing_laws.proofs.laws.an_edit_leaves_the_others.Goals as goal

pub returns : goal.returns
returns c = leaves_the_others
