use Rattle.commit_machine.proofs.told.Refusals.{no_refused_is_decided}
use Rattle.commit_machine.proofs.laws.no_refused_is_decided.Goals as goal

pub returns : goal.returns
returns c = no_refused_is_decided
