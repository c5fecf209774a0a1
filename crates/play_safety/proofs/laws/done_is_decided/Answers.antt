use Rattle.play_safety.proofs.DecidedLemmas.{done_is_decided}
use Rattle.play_safety.proofs.laws.done_is_decided.Goals as goal

pub returns : goal.returns
returns c = done_is_decided
