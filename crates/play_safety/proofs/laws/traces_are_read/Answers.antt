use Rattle.play_safety.proofs.LawLemmas.{traces_are_read}
use Rattle.play_safety.proofs.laws.traces_are_read.Goals as goal

pub returns : goal.returns
returns c = traces_are_read
