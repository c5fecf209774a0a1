use Rattle.mail_headers.proofs.LawLemmas.{header-entries}
use Rattle.mail_headers.proofs.laws.entries_make_the_header.Goals as goal

pub returns : goal.returns
returns c = header-entries
