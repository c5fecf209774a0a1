use Rattle.mail_dates.proofs.PartLemmas.{at_end}
use Rattle.mail_dates.proofs.parts.is_at_end.Goals as goal

pub returns-in-Some : goal.returns-in-Some
returns-in-Some c = at_end c.args.text.now c.in-Some.rest.now c.is_empty.result c.in-Some.ensures c.is_empty.ensures
