use Rattle.actor_core.proofs.TurnLemmas.{only_at}
use Rattle.actor_core.proofs.turning.only.Goals as goal

pub returns : goal.returns
returns c = λ k d old next e. only_at k d old next c.args.doing e
