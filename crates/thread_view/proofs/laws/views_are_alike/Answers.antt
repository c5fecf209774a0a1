use Rattle.thread_view.proofs.OneViewLemmas.{views_are_alike}
use Rattle.thread_view.proofs.laws.views_are_alike.Goals as goal

pub returns : goal.returns
returns c = views_are_alike
