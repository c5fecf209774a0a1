use Rattle.play_likeness.proofs.JobLemmas.{jobs_are_alike}
use Rattle.play_likeness.proofs.laws.jobs_are_alike.Goals as goal

pub returns : goal.returns
returns c = jobs_are_alike
