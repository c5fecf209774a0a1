use Rattle.commit_machine.proofs.told.Decisions.{decisions_are_told}
use Rattle.commit_machine.proofs.laws.decisions_are_told.Goals as goal

pub returns : goal.returns
returns c = decisions_are_told
