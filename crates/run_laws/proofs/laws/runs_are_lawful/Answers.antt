use Rattle.run_laws.proofs.BesideLemmas.{runs_are_lawful}
use Rattle.run_laws.proofs.laws.runs_are_lawful.Goals as goal

pub returns : goal.returns
returns c = runs_are_lawful
