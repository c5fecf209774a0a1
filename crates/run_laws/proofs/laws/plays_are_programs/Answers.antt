use Rattle.run_laws.proofs.ProgramLemmas.{plays_are_programs}
use Rattle.run_laws.proofs.laws.plays_are_programs.Goals as goal

pub returns : goal.returns
returns c = plays_are_programs
