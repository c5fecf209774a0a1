use Rattle.mailx_top.proofs.QuitLemmas.{quits-keep-gathered}
use Rattle.mailx_top.proofs.laws.quits_keep_gathered.Goals as goal

pub returns : goal.returns
returns c = quits-keep-gathered
