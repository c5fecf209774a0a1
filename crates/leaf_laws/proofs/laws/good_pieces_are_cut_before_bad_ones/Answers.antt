use Rattle.leaf_laws.proofs.CutLemmas.{good-pieces}
use Rattle.leaf_laws.proofs.laws.good_pieces_are_cut_before_bad_ones.Goals as goal

pub returns : goal.returns
returns c = good-pieces
