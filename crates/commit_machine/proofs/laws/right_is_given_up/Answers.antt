use Rattle.commit_machine.proofs.told.Restraints.{right_is_given_up}
use Rattle.commit_machine.proofs.laws.right_is_given_up.Goals as goal

pub returns : goal.returns
returns c = right_is_given_up
