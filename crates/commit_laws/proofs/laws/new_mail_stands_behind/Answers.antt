use Rattle.commit_laws.proofs.NewMailLemmas.{new_mail_stands_behind}
use Rattle.commit_laws.proofs.laws.new_mail_stands_behind.Goals as goal

pub returns : goal.returns
returns c = new_mail_stands_behind
