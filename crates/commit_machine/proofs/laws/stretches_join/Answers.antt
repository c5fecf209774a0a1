use Rattle.commit_machine.proofs.runs.Stretches.{stretches_join}
use Rattle.commit_machine.proofs.laws.stretches_join.Goals as goal

pub returns : goal.returns
returns c = stretches_join
