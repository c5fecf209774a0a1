use Rattle.mailx_top.specs.Meaning.{actor_in}
use Rattle.play_safety.proofs.AppendedLemmas.{all-followed}
use Rattle.mailx_top.proofs.laws.appended_follows.Goals as goal

pub returns : goal.returns
returns c = λ start env s d es safe. all-followed (actor_in env) env.token d es safe.commits safe.out safe.safe
