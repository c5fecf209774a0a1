use Rattle.session_asks.proofs.OpeningLemmas.{cleared-desk}
use Rattle.session_asks.proofs.renewing.clear.Goals as goal

pub returns : goal.returns
returns c = rw (c.requires.none, c.new.ensures, c.new-2.ensures, c.new-3.ensures, c.new-4.ensures) (cleared-desk c.args.desk.now c.requires.width)
