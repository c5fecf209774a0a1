use Rattle.mailx_top.proofs.AlikeLemmas.{runs_are_alike}
use Rattle.mailx_top.proofs.laws.runs_are_alike.Goals as goal

pub returns : goal.returns
returns c = runs_are_alike c.a_text_has_one_row.ensures c.views_are_alike.ensures
