use Rattle.std.proofs.Common.{refl}
use Rattle.mail_search.specs.Names.{names}
use Rattle.mail_search.proofs.names.rows.Goals as goal

pub returns : goal.returns
unfolding names
returns c = refl
