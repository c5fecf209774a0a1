use Rattle.actor_ground.proofs.EndLemmas.{calls-end-so, ends-are-of-calls}
use Rattle.actor_ground.proofs.laws.calls_end_so.Goals as goal

pub returns-clause-ends : goal.returns-clause-ends
returns-clause-ends c = calls-end-so

pub returns-clause-honest : goal.returns-clause-honest
returns-clause-honest c = ends-are-of-calls
