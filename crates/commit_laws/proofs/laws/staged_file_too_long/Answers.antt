use Rattle.commit_laws.proofs.TooLongLemmas.{staged_file_too_long}
use Rattle.commit_laws.proofs.laws.staged_file_too_long.Goals as goal

pub returns : goal.returns
returns c = staged_file_too_long
