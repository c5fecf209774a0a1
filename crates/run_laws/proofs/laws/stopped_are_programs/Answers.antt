use Rattle.run_laws.proofs.StoppedLemmas.{stopped_are_programs}
use Rattle.run_laws.proofs.laws.stopped_are_programs.Goals as goal

pub returns : goal.returns
returns c = stopped_are_programs
