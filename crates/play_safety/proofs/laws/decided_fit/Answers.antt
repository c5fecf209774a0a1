use Rattle.play_safety.proofs.FitLemmas.{decided_fit}
use Rattle.play_safety.proofs.laws.decided_fit.Goals as goal

pub returns : goal.returns
returns c = decided_fit
