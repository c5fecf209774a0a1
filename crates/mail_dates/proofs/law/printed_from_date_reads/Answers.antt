use Rattle.mail_dates.proofs.ArrivalRoundTrip.{arrival_reads_back}
use Rattle.mail_dates.proofs.law.printed_from_date_reads.Goals as goal

pub returns : goal.returns
returns c = arrival_reads_back c.args.sender.now c.args.m c.requires.sender c.requires.range
