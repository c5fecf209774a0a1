use Rattle.play_safety.proofs.AppendedLemmas.{appended_follows}
use Rattle.play_safety.proofs.laws.appended_follows.Goals as goal

pub returns : goal.returns
returns c = appended_follows
