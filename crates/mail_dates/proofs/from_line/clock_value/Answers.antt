use Rattle.mail_dates.specs.FromLines.{clock_value}
use Rattle.mail_dates.proofs.WordLemmas.{third_colon}
use Rattle.mail_dates.proofs.from_line.clock_value.Goals as goal

pub returns-in-Some-cut_at_colon-clause-value : goal.returns-in-Some-cut_at_colon-clause-value
unfolding clock_value
returns-in-Some-cut_at_colon-clause-value c =
    third_colon c.args.word.now c.in_ok-hour.rest.now c.in-Some.second.now c.in_ok-hour.hour.now c.in-Some.minute.now
    c.in-Some-cut_at_colon.field-0.0.now c.in-Some-cut_at_colon.field-0.1.now c.in_ok-hour.ensures c.in-Some.ensures c.in-Some-cut_at_colon.ensures
