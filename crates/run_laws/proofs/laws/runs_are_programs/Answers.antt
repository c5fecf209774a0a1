use Rattle.run_laws.proofs.RunLemmas.{runs_are_programs}
use Rattle.run_laws.proofs.laws.runs_are_programs.Goals as goal

pub returns : goal.returns
returns c = runs_are_programs
