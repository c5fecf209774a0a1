use Rattle.mail_dates.proofs.CivilDays.{day_has_date}
use Rattle.mail_dates.proofs.law.day_has_date.Goals as goal

pub returns : goal.returns
returns c = day_has_date c.args.day c.requires
