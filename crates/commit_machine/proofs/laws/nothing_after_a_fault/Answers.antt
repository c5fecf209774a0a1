use Rattle.commit_machine.proofs.told.Faults.{nothing_after_a_fault}
use Rattle.commit_machine.proofs.laws.nothing_after_a_fault.Goals as goal

pub returns : goal.returns
returns c = nothing_after_a_fault
