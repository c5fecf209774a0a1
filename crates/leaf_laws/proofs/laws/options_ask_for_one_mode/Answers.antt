use Rattle.leaf_laws.proofs.AskLemmas.{modes-are-asked, wanted-is-asked}
use Rattle.leaf_laws.proofs.laws.options_ask_for_one_mode.Goals as goal

pub returns : goal.returns
returns c = record { modes = modes-are-asked; words = wanted-is-asked }
