use Rattle.commit_laws.proofs.RunLemmas.{commits_are_known}
use Rattle.commit_laws.proofs.laws.commits_are_known.Goals as goal

pub returns : goal.returns
returns c = commits_are_known
