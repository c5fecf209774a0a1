use Rattle.mailx_top.proofs.EditionLemmas.{edits-keep}
use Rattle.mailx_top.proofs.laws.edits_keep_appended.Goals as goal

pub returns : goal.returns
returns c = edits-keep
