use Rattle.mail_dates.proofs.PlainText.{short_date_is_plain}
use Rattle.mail_dates.proofs.law.short_date_is_plain.Goals as goal

pub returns : goal.returns
returns c = short_date_is_plain c.args.m c.requires
