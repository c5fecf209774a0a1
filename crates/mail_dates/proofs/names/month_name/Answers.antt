use Rattle.std.proofs.Common.{rules}
use Rattle.mail_dates.specs.Names.{month_name}
use Rattle.mail_dates.proofs.names.month_name.Goals as goal

pub returns : goal.returns
unfolding month_name
returns c = search rules
