use Rattle.mail_dates.proofs.PlainText.{date_is_plain, from_date_is_plain}
use Rattle.mail_dates.proofs.law.printed_dates_are_plain.Goals as goal

pub returns-clause-date : goal.returns-clause-date
returns-clause-date c = date_is_plain c.args.m c.requires

pub returns-clause-from_date : goal.returns-clause-from_date
returns-clause-from_date c = from_date_is_plain c.args.m c.requires
