use Rattle.run_laws.proofs.BracketLemmas.{plays_show_steps}
use Rattle.run_laws.proofs.laws.plays_show_steps.Goals as goal

pub returns : goal.returns
returns c = plays_show_steps
