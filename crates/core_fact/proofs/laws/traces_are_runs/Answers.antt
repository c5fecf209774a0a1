use Rattle.core_fact.proofs.Traced.{traces-are-runs}
use Rattle.core_fact.proofs.laws.traces_are_runs.Goals as goal

pub returns : goal.returns
returns c = traces-are-runs
