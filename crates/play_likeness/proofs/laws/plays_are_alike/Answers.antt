use Rattle.play_likeness.proofs.AlikeLemmas.{plays_are_alike}
use Rattle.play_likeness.proofs.laws.plays_are_alike.Goals as goal

pub returns : goal.returns
returns c = plays_are_alike c.a_text_has_one_row.ensures c.views_are_alike.ensures
