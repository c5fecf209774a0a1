use Rattle.mailx_top.proofs.QuitLemmas.{quits-keep}
use Rattle.mailx_top.proofs.laws.quits_keep_appended.Goals as goal

pub returns : goal.returns
returns c = quits-keep
