use Rattle.commit_laws.proofs.CommandLemmas.{lines_ask}
use Rattle.commit_laws.proofs.laws.lines_ask.Goals as goal

pub returns : goal.returns
returns c = lines_ask
