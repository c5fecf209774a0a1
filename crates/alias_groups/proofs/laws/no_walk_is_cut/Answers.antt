use Rattle.alias_groups.proofs.DepthLemmas.{depth-suffices}
use Rattle.alias_groups.proofs.laws.no_walk_is_cut.Goals as goal

pub returns : goal.returns
returns c = depth-suffices
