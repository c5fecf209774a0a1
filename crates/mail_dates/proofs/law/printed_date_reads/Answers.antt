use Rattle.mail_dates.proofs.RoundTrip.{printed_reads_back}
use Rattle.mail_dates.proofs.law.printed_date_reads.Goals as goal

pub returns : goal.returns
returns c = printed_reads_back c.args.m c.requires.range c.requires.day
