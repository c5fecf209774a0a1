use Rattle.std.proofs.Common.{rules}
use Rattle.mail_dates.specs.Names.{day_name}
use Rattle.mail_dates.proofs.names.day_name.Goals as goal

pub returns : goal.returns
unfolding day_name
returns c = search rules
