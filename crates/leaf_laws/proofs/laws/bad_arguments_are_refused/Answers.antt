use Rattle.leaf_laws.proofs.ArgumentLemmas.{bad-are-refused}
use Rattle.leaf_laws.proofs.laws.bad_arguments_are_refused.Goals as goal

pub returns : goal.returns
returns c = bad-are-refused
