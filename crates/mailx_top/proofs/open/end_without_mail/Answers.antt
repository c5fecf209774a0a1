use Rattle.mailx_top.proofs.open.end_without_mail.Goals as goal

pub returns-clause-ran : goal.returns-clause-ran
returns-clause-ran g c = rw c.reader-reader.ensures at c.end_at_file.ensures.ran c.args.session.now
