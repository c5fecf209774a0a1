use Rattle.core_fact.proofs.Refusals.{refusals_are_these}
use Rattle.core_fact.proofs.laws.refusals_are_these.Goals as goal

pub returns : goal.returns
returns c = refusals_are_these
