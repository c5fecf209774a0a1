use Rattle.play_safety.proofs.LawLemmas.{plays_are_safe}
use Rattle.play_safety.proofs.laws.plays_are_safe.Goals as goal

pub returns : goal.returns
returns c = plays_are_safe
