use Rattle.reply_laws.proofs.FilingLemmas.{filings_tell}
use Rattle.reply_laws.proofs.laws.filings_tell_behind.Goals as goal

pub returns : goal.returns
returns c = filings_tell
