use Rattle.mail_addresses.proofs.CutAgain.{cut_again}
use Rattle.mail_addresses.proofs.laws.pieces_are_cut_again.Goals as goal

pub returns : goal.returns
returns c = cut_again
