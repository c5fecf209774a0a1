use Rattle.std.proofs.Common.{rules}
use Rattle.mail_dates.specs.Printed.{zone_text}
use Rattle.mail_dates.proofs.print.zone.Goals as goal

pub returns : goal.returns
unfolding zone_text
returns c = search rules
