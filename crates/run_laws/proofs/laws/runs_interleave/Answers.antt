use Rattle.run_laws.proofs.TogetherLemmas.{runs_interleave}
use Rattle.run_laws.proofs.laws.runs_interleave.Goals as goal

pub returns : goal.returns
returns c = runs_interleave
